use Rattle.std.proofs.Common.{◌≡◌, ◌++◌, take}
use Rattle.std.specs.List.{flat_map}
use Rattle.entry_map.specs.Entries.{pairs_of}
use Rattle.show_lines.specs.LedgerLines.{record_line}
use Rattle.show_lines.proofs.ledgers.push_row.Given as goal

abbrev pub invariant-loop-stored : goal.invariant-loop-stored
invariant-loop-stored l = l.lines.items ≡ l.initial.lines.items ++ flat_map record_line (pairs_of (take l.stored-index l.row))
