use Rattle.host_ledger.proofs.Steps.{row_at}
use Rattle.host_ledger.proofs.groups.one_word.Goals as goal

pub returns-in-FailWithError-clause-does : goal.returns-in-FailWithError-clause-does
returns-in-FailWithError-clause-does g c = rw c.in-FailWithError.is (row_at _ _ _ _ _ c.fail_with_error.ensures.does (λ env opener w left h. h))

pub returns-in-UpdateCurrentContractWasm-clause-does : goal.returns-in-UpdateCurrentContractWasm-clause-does
returns-in-UpdateCurrentContractWasm-clause-does g c = rw c.in-UpdateCurrentContractWasm.is (row_at _ _ _ _ _ c.update_current_contract_wasm.ensures.does (λ env opener w left h. h))
