use Rattle.std.specs.List.{AllByRecursion}
use Rattle.std.proofs.Common.{take}
use Rattle.ledger_spec.specs.LedgerMap.{LedgerMap}
use Rattle.contract_storage.specs.Differences.{change_all}
use Rattle.tx_steps.specs.Changed.{CanLie, Leads}
use Rattle.tx_steps.proofs.changes.by_key.Given as goal

abbrev pub invariant-loop-change : goal.invariant-loop-change
invariant-loop-change l = ((old : LedgerMap) → Leads old (change_all old (take l.change-index l.changes)) l.changed.entries) × AllByRecursion CanLie l.changed.entries
