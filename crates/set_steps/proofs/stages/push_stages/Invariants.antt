use Rattle.std.proofs.Common.{◌≡◌, ◌++◌, map, take}
use Rattle.set_steps.specs.Stages.{stage_of}
use Rattle.set_steps.proofs.stages.push_stages.Given as goal

abbrev pub invariant-loop-stage : goal.invariant-loop-stage
invariant-loop-stage l = map stage_of l.list.items ≡ map stage_of l.initial.list.items ++ take l.stage-index l.stages
