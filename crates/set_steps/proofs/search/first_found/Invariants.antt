use Rattle.std.specs.List.{AllByRecursion}
use Rattle.std.proofs.Common.{map, take}
use Rattle.stage_runs.specs.Runs.{HasNoConflict}
use Rattle.set_steps.specs.Stages.{clusters_of}
use Rattle.set_steps.proofs.search.first_found.Given as goal

abbrev pub invariant-loop-index : goal.invariant-loop-index
invariant-loop-index l = AllByRecursion HasNoConflict (clusters_of (take l.index (map (λ s. s.stage) l.searches)))
