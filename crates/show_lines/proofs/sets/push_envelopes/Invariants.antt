use Rattle.std.proofs.Common.{◌≡◌, ◌++◌, drop}
use Rattle.show_lines.specs.SetLines.{envelope_line_at, numbered}
use Rattle.show_lines.proofs.sets.push_envelopes.Given as goal

abbrev pub invariant-loop-index : goal.invariant-loop-index
invariant-loop-index l =
    l.lines.items ++ numbered (envelope_line_at l.stage l.cluster) l.index (drop l.index l.envelopes) ≡ l.fn.lines.items ++ numbered (envelope_line_at l.stage l.cluster) 0 l.envelopes
