use Rattle.host_ledger.proofs.Steps.{row_at}
use Rattle.host_ledger.proofs.groups.without_words.Goals as goal

pub returns-in-GetLedgerVersion-clause-does : goal.returns-in-GetLedgerVersion-clause-does
returns-in-GetLedgerVersion-clause-does g c = rw c.in-GetLedgerVersion.is (row_at _ _ _ _ _ c.get_ledger_version.ensures.does (λ env opener w left h. h))

pub returns-in-GetLedgerSequence-clause-does : goal.returns-in-GetLedgerSequence-clause-does
returns-in-GetLedgerSequence-clause-does g c = rw c.in-GetLedgerSequence.is (row_at _ _ _ _ _ c.get_ledger_sequence.ensures.does (λ env opener w left h. h))

pub returns-in-GetLedgerTimestamp-clause-does : goal.returns-in-GetLedgerTimestamp-clause-does
returns-in-GetLedgerTimestamp-clause-does g c = rw c.in-GetLedgerTimestamp.is (row_at _ _ _ _ _ c.get_ledger_timestamp.ensures.does (λ env opener w left h. h))

pub returns-in-GetLedgerNetworkId-clause-does : goal.returns-in-GetLedgerNetworkId-clause-does
returns-in-GetLedgerNetworkId-clause-does g c = rw c.in-GetLedgerNetworkId.is (row_at _ _ _ _ _ c.get_ledger_network_id.ensures.does (λ env opener w left h. h))

pub returns-in-GetCurrentContractAddress-clause-does : goal.returns-in-GetCurrentContractAddress-clause-does
returns-in-GetCurrentContractAddress-clause-does g c = rw c.in-GetCurrentContractAddress.is (row_at _ _ _ _ _ c.get_current_contract_address.ensures.does (λ env opener w left h. h))

pub returns-in-GetMaxLiveUntilLedger-clause-does : goal.returns-in-GetMaxLiveUntilLedger-clause-does
returns-in-GetMaxLiveUntilLedger-clause-does g c = rw c.in-GetMaxLiveUntilLedger.is (row_at _ _ _ _ _ c.get_max_live_until_ledger.ensures.does (λ env opener w left h. h))
