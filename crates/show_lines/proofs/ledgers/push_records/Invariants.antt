use Rattle.std.proofs.Common.{◌≡◌, ◌++◌, take}
use Rattle.std.specs.List.{flat_map}
use Rattle.entry_map.specs.Entries.{pairs_of}
use Rattle.entry_map.specs.Rows.{rows_of, joined}
use Rattle.show_lines.specs.LedgerLines.{record_line}
use Rattle.show_lines.proofs.ledgers.push_records.Given as goal

abbrev pub invariant-loop-row : goal.invariant-loop-row
invariant-loop-row l = l.lines.items ≡ l.initial.lines.items ++ flat_map record_line (pairs_of (joined (rows_of (take l.row-index l.row-items))))
