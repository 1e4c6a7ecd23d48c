use Rattle.host_ledger.proofs.Steps.{row_at}
use Rattle.host_ledger.proofs.groups.four_words.Goals as goal

pub returns-clause-does : goal.returns-clause-does
returns-clause-does g c = rw c.in-ExtendContractDataTtl.is (row_at _ _ _ _ _ c.extend_contract_data_ttl.ensures.does (λ env opener w left h. h))
