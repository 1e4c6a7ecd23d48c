use Rattle.std.specs.FinMap.{get}
use Rattle.std.proofs.Common.{take}
use Rattle.set_steps.specs.Sides.{sides_in, AddsChanges}
use Rattle.set_steps.proofs.sides.add_changes.Given as goal

abbrev pub invariant-loop-change : goal.invariant-loop-change
invariant-loop-change g l =
    AddsChanges (g.E.Entries.shown l.entries) (get (g.E.Ground.map l.entries)) (take l.change-index l.changes) (sides_in l.initial.sides) (sides_in l.sides)
