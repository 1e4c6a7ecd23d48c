use Rattle.std.proofs.Common.{rules}
use Rattle.value_types.specs.Equality.{as_is_same}
use Rattle.ledger_types.specs.Equality.{coded_code_entry}
use Rattle.ledger_types.proofs.equality.ContractCodeEntryPartialEq.eq.Goals as goal

pub returns-then-eq-clause-eq : goal.returns-then-eq-clause-eq
returns-then-eq-clause-eq c = as_is_same coded_code_entry _ _ _ (search rules)

pub returns-else-eq-clause-eq : goal.returns-else-eq-clause-eq
returns-else-eq-clause-eq c = as_is_same coded_code_entry _ _ _ (search rules)
