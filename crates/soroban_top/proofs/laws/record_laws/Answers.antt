use Rattle.soroban_top.proofs.EntriesFound.{record_done, record_malformed, record_stores}
use Rattle.soroban_top.proofs.Ledgers.{record_ledger, record_no_ledger}
use Rattle.soroban_top.proofs.laws.record_laws.Goals as goal

pub returns-clause-ledger : goal.returns-clause-ledger
returns-clause-ledger c = record_ledger

pub returns-clause-no_ledger : goal.returns-clause-no_ledger
returns-clause-no_ledger c = record_no_ledger

pub returns-clause-malformed : goal.returns-clause-malformed
returns-clause-malformed c = record_malformed

pub returns-clause-done : goal.returns-clause-done
returns-clause-done c = record_done

pub returns-clause-stored : goal.returns-clause-stored
returns-clause-stored c = record_stores
