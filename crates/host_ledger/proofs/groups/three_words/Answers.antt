use Rattle.host_ledger.proofs.Steps.{row_at}
use Rattle.host_ledger.proofs.groups.three_words.Goals as goal

pub returns-clause-does : goal.returns-clause-does
returns-clause-does g c = rw c.in-PutContractData.is (row_at _ _ _ _ _ c.put_contract_data.ensures.does (λ env opener w left h. h))
