use Rattle.std.specs.List.{AllByRecursion}
use Rattle.tx_steps.specs.Resolved.{IsRight}
use Rattle.tx_steps.proofs.resolved.look_up.Given as goal

abbrev pub invariant-loop-key : goal.invariant-loop-key
invariant-loop-key g l = AllByRecursion (IsRight (g.G.Ground.map l.ground)) l.rows.items
