use Rattle.std.proofs.Common.{◌≡◌, ◌++◌, map, take}
use Rattle.tx_xdr.specs.Stages.{component_stage}
use Rattle.set_steps.specs.Stages.{stage_of}
use Rattle.set_steps.proofs.stages.push_components.Given as goal

abbrev pub invariant-loop-component : goal.invariant-loop-component
invariant-loop-component l = map stage_of l.list.items ≡ map stage_of l.initial.list.items ++ map component_stage (take l.component-index l.components)
