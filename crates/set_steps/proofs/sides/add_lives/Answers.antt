use Rattle.std.specs.FinMap.{get}
use Rattle.std.proofs.Common.{◌+◌, ◌-◌, length, sym, subst, arith}
use Rattle.ledger_types.specs.Key.{key_format}
use Rattle.set_steps.specs.Sides.{sides_in}
use Rattle.set_steps.specs.declared.lives.Life.{Life}
use Rattle.set_steps.proofs.Telling.{lives_begin, lives_end, lives_more}
use Rattle.set_steps.proofs.sides.add_lives.Goals as goal

pub loop-done-init : goal.loop-done-init
loop-done-init g c =
    lives_begin (get (g.G.Ground.map c.args.ground.now)) c.args.lives.now (length c.args.lives.now - 0) (sides_in c.args.sides.now) (omega arith)

pub add_life-requires : goal.add_life-requires
add_life-requires g c =
    subst (λ (life : Life). key_format.fits life.key) (sym c.index-lives-index.is) (c.requires _ c.index-lives-index.result (omega arith))

pub loop-done-preserved : goal.loop-done-preserved
loop-done-preserved g c =
    let lives = c.args.lives.now in
    let done = c.loop-done.done in
    lives_more (get (g.G.Ground.map c.args.ground.now)) lives (length lives - (done + 1)) (length lives - done) (length lives - 1 - done)
    c.index-lives-index.result (sides_in c.args.sides.now) (sides_in c.loop-done.sides) (sides_in c.add_life.new.sides)
    (omega arith) (omega arith) (omega arith) c.index-lives-index.is c.loop-done.invariant c.in_ok-add_life.ensures

pub returns : goal.returns
returns g c =
    lives_end (get (g.G.Ground.map c.args.ground.now)) c.args.lives.now (length c.args.lives.now - c.loop-done.done) (sides_in c.args.sides.now)
    (sides_in c.loop-done.sides) (omega arith) c.loop-done.invariant
