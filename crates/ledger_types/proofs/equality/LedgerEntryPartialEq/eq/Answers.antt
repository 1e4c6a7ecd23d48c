use Rattle.std.proofs.Common.{rules}
use Rattle.value_types.specs.Equality.{as_is_same}
use Rattle.ledger_types.specs.Equality.{coded_entry}
use Rattle.ledger_types.proofs.equality.LedgerEntryPartialEq.eq.Goals as goal

pub returns-then-self-other-clause-eq : goal.returns-then-self-other-clause-eq
returns-then-self-other-clause-eq c = as_is_same coded_entry _ _ _ (search rules)

pub returns-else-self-other-clause-eq : goal.returns-else-self-other-clause-eq
returns-else-self-other-clause-eq c = as_is_same coded_entry _ _ _ (search rules)
