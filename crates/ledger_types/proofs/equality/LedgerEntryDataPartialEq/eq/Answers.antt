use Rattle.std.proofs.Common.{rules}
use Rattle.value_types.specs.Equality.{as_is_same}
use Rattle.ledger_types.specs.Equality.{coded_entry_data}
use Rattle.ledger_types.proofs.equality.LedgerEntryDataPartialEq.eq.Goals as goal

pub returns-in-ContractData-other-clause-eq : goal.returns-in-ContractData-other-clause-eq
returns-in-ContractData-other-clause-eq c = as_is_same coded_entry_data _ _ _ (search rules)

pub returns-in-ContractCode-other-clause-eq : goal.returns-in-ContractCode-other-clause-eq
returns-in-ContractCode-other-clause-eq c = as_is_same coded_entry_data _ _ _ (search rules)

pub returns-in-ContractCode-other-2-clause-eq : goal.returns-in-ContractCode-other-2-clause-eq
returns-in-ContractCode-other-2-clause-eq c = as_is_same coded_entry_data _ _ _ (search rules)

pub returns-in-ContractData-other-2-clause-eq : goal.returns-in-ContractData-other-2-clause-eq
returns-in-ContractData-other-2-clause-eq c = as_is_same coded_entry_data _ _ _ (search rules)
