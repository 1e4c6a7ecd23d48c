use Rattle.std.proofs.Common.{◌≡◌, ◌++◌, take}
use Rattle.std.specs.List.{flat_map}
use Rattle.entry_map.specs.Entries.{pairs_of}
use Rattle.ledger_file.specs.Records.{record_bytes}
use Rattle.ledger_file.proofs.writing.write_row.Given as goal

abbrev pub invariant-loop-stored : goal.invariant-loop-stored
invariant-loop-stored l = l.out ≡ l.initial.out ++ flat_map record_bytes (pairs_of (take l.stored-index l.row))
