use Rattle.std.proofs.Common.{◌≡◌, ◌++◌, take}
use Rattle.std.specs.List.{flat_map}
use Rattle.entry_map.specs.Entries.{pairs_of}
use Rattle.entry_map.specs.Rows.{rows_of, joined}
use Rattle.ledger_file.specs.Records.{record_bytes}
use Rattle.ledger_file.proofs.writing.write_records.Given as goal

abbrev pub invariant-loop-row : goal.invariant-loop-row
invariant-loop-row l = l.out ≡ l.initial.out ++ flat_map record_bytes (pairs_of (joined (rows_of (take l.row-index l.row-items))))
