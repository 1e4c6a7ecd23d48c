use Rattle.std.proofs.Common.{◌≡◌, ◌++◌, drop, map}
use Rattle.show_lines.specs.SetLines.{numbered, stage_lines}
use Rattle.show_lines.specs.Parts.{part_of}
use Rattle.show_lines.proofs.sets.push_parts.Given as goal

abbrev pub invariant-loop-stage : goal.invariant-loop-stage
invariant-loop-stage l = l.lines.items ++ numbered stage_lines l.stage (map part_of (drop l.stage l.parts)) ≡ l.fn.lines.items ++ numbered stage_lines 0 (map part_of l.parts)
