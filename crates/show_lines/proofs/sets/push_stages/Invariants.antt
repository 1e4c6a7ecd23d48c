use Rattle.std.proofs.Common.{◌≡◌, ◌++◌, map, take}
use Rattle.show_lines.specs.Parts.{part_of}
use Rattle.show_lines.proofs.sets.push_stages.Given as goal

abbrev pub invariant-loop-stage : goal.invariant-loop-stage
invariant-loop-stage l = map part_of l.parts.items ≡ map part_of l.fn.parts.items ++ take l.stage-index l.stages
