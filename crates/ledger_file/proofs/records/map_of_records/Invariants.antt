use Rattle.std.proofs.Common.{length}
use Rattle.std.specs.FinMap.{entries}
use Rattle.ledger_file.proofs.Steps.{Judged}
use Rattle.ledger_file.proofs.records.map_of_records.Given as goal

abbrev pub invariant-loop-item : goal.invariant-loop-item
invariant-loop-item l = Judged l.fn.records.items (length l.yielded) (entries l.entries)
