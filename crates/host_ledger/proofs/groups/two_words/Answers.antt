use Rattle.host_ledger.proofs.Steps.{row_at}
use Rattle.host_ledger.proofs.groups.two_words.Goals as goal

pub returns-in-ContractEvent-clause-does : goal.returns-in-ContractEvent-clause-does
returns-in-ContractEvent-clause-does g c = rw c.in-ContractEvent.is (row_at _ _ _ _ _ c.contract_event.ensures.does (λ env opener w left h. h))

pub returns-in-HasContractData-clause-does : goal.returns-in-HasContractData-clause-does
returns-in-HasContractData-clause-does g c = rw c.in-HasContractData.is (row_at _ _ _ _ _ c.has_contract_data.ensures.does (λ env opener w left h. h))

pub returns-in-GetContractData-clause-does : goal.returns-in-GetContractData-clause-does
returns-in-GetContractData-clause-does g c = rw c.in-GetContractData.is (row_at _ _ _ _ _ c.get_contract_data.ensures.does (λ env opener w left h. h))

pub returns-in-DelContractData-clause-does : goal.returns-in-DelContractData-clause-does
returns-in-DelContractData-clause-does g c = rw c.in-DelContractData.is (row_at _ _ _ _ _ c.del_contract_data.ensures.does (λ env opener w left h. h))

pub returns-in-ExtendCurrentContractInstanceAndCodeTtl-clause-does : goal.returns-in-ExtendCurrentContractInstanceAndCodeTtl-clause-does
returns-in-ExtendCurrentContractInstanceAndCodeTtl-clause-does g c = rw c.in-ExtendCurrentContractInstanceAndCodeTtl.is (row_at _ _ _ _ _ c.extend_current_contract_instance_and_code_ttl.ensures.does (λ env opener w left h. h))

pub returns-in-GetContractId-clause-does : goal.returns-in-GetContractId-clause-does
returns-in-GetContractId-clause-does g c = rw c.in-GetContractId.is (row_at _ _ _ _ _ c.get_contract_id.ensures.does (λ env opener w left h. h))
