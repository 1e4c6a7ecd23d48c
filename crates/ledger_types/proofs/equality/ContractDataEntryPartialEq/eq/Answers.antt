use Rattle.std.proofs.Common.{rules}
use Rattle.value_types.specs.Equality.{as_is_same}
use Rattle.ledger_types.specs.Equality.{coded_data_entry}
use Rattle.ledger_types.proofs.equality.ContractDataEntryPartialEq.eq.Goals as goal

pub returns-then-eq-3-clause-eq : goal.returns-then-eq-3-clause-eq
returns-then-eq-3-clause-eq c = as_is_same coded_data_entry _ _ _ (search rules)

pub returns-else-eq-3-clause-eq : goal.returns-else-eq-3-clause-eq
returns-else-eq-3-clause-eq c = as_is_same coded_data_entry _ _ _ (search rules)
