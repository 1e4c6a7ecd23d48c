use Rattle.std.proofs.Common.{subst, arith}
use Rattle.stage_plan.proofs.Lemmas.{take_all}
use Rattle.stage_codes.specs.Found.{Adds}
use Rattle.stage_codes.proofs.Ordered.{adds_none, adds_key}
use Rattle.stage_codes.proofs.found.add_codes.Goals as goal

pub loop-key-init : goal.loop-key-init
loop-key-init g c = adds_none (g.G.Ground.map c.args.ground.now) c.args.codes.now c.requires.found

pub loop-key-preserved : goal.loop-key-preserved
loop-key-preserved g c =
    adds_key (g.G.Ground.map c.args.ground.now) c.args.codes.now c.loop-key.codes c.add_code.new.codes c.args.keys.now c.loop-key.key-index c.key-item.result c.loop-key-test.true c.key-item.is c.loop-key.invariant
    c.in_ok-add_code.ensures.found c.in_ok-add_code.ensures.keeps c.in_ok-add_code.ensures.there c.in_ok-add_code.ensures.only

pub returns : goal.returns
returns g c =
    subst (λ ks. Adds (g.G.Ground.map c.args.ground.now) c.args.codes.now c.loop-key.codes ks) (take_all c.args.keys.now c.loop-key.key-index (omega arith) (omega arith)) c.loop-key.invariant
