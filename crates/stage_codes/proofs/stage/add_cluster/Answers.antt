use Rattle.std.proofs.Common.{subst, refl}
use Rattle.stage_runs.specs.Transactions.{declared_by}
use Rattle.stage_plan.proofs.Lemmas.{read_spelled}
use Rattle.stage_codes.specs.Found.{Adds}
use Rattle.stage_codes.proofs.Ordered.{adds_of}
use Rattle.stage_codes.proofs.stage.add_cluster.Goals as goal

pub add_codes-requires-clause-keys : goal.add_codes-requires-clause-keys
add_codes-requires-clause-keys g c =
    read_spelled c.args.envelopes.now c.args.envelopes.now c.loop-envelope.envelope-index c.envelope-item.result c.read_only_of.result.now c.requires.spelled
    refl c.loop-envelope-test.true c.envelope-item.is c.read_only_of.ensures

pub loop-envelope-preserved : goal.loop-envelope-preserved
loop-envelope-preserved g c =
    adds_of (λ tx. (declared_by tx).read_only) (g.G.Ground.map c.args.ground.now) c.args.codes.now c.loop-envelope.codes c.add_codes.new.codes c.args.envelopes.now
    c.loop-envelope.envelope-index c.envelope-item.result c.loop-envelope-test.true c.envelope-item.is c.loop-envelope.invariant
    (subst (Adds (g.G.Ground.map c.args.ground.now) c.loop-envelope.codes c.add_codes.new.codes) c.read_only_of.ensures c.in_ok-add_codes.ensures)
