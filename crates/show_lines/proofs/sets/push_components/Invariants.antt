use Rattle.std.proofs.Common.{◌≡◌, ◌++◌, map, take}
use Rattle.tx_xdr.specs.Stages.{component_stage}
use Rattle.show_lines.specs.Parts.{part_of}
use Rattle.show_lines.proofs.sets.push_components.Given as goal

abbrev pub invariant-loop-component : goal.invariant-loop-component
invariant-loop-component l = map part_of l.parts.items ≡ map part_of l.fn.parts.items ++ map component_stage (take l.component-index l.components)
