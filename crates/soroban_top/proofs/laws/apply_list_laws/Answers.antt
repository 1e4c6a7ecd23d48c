use Rattle.soroban_top.proofs.ListsApplied.{list_done, list_ledger, list_malformed, list_no_ledger, list_stores, list_verdicts}
use Rattle.soroban_top.proofs.laws.apply_list_laws.Goals as goal

pub returns-clause-ledger : goal.returns-clause-ledger
returns-clause-ledger c = list_ledger

pub returns-clause-no_ledger : goal.returns-clause-no_ledger
returns-clause-no_ledger c = list_no_ledger

pub returns-clause-verdicts : goal.returns-clause-verdicts
returns-clause-verdicts c = list_verdicts

pub returns-clause-malformed : goal.returns-clause-malformed
returns-clause-malformed c = list_malformed

pub returns-clause-done : goal.returns-clause-done
returns-clause-done c = list_done

pub returns-clause-stored : goal.returns-clause-stored
returns-clause-stored c = list_stores
