use Rattle.std.specs.FinMap.{get}
use Rattle.std.proofs.Common.{◌-◌, drop, length}
use Rattle.set_steps.specs.Sides.{sides_in, AddsLives}
use Rattle.set_steps.proofs.sides.add_lives.Given as goal

abbrev pub invariant-loop-done : goal.invariant-loop-done
invariant-loop-done g l =
    AddsLives (get (g.G.Ground.map l.ground)) (drop (length l.lives - l.done) l.lives) (sides_in l.initial.sides) (sides_in l.sides)
