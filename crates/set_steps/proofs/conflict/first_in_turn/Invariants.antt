use Rattle.std.specs.List.{AllByRecursion}
use Rattle.std.proofs.Common.{take}
use Rattle.stage_runs.specs.Runs.{HasNoConflict}
use Rattle.set_steps.specs.Stages.{clusters_of}
use Rattle.set_steps.proofs.conflict.first_in_turn.Given as goal

abbrev pub invariant-loop-index : goal.invariant-loop-index
invariant-loop-index l = AllByRecursion HasNoConflict (clusters_of (take l.index l.stages))
