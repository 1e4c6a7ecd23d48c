use Rattle.soroban_top.proofs.Due.{simulate_done, simulate_malformed, simulate_verdicts}
use Rattle.soroban_top.proofs.Ledgers.{simulate_enforced, simulate_ledger, simulate_no_ledger, simulate_stores}
use Rattle.soroban_top.proofs.laws.simulate_laws.Goals as goal

pub returns-clause-ledger : goal.returns-clause-ledger
returns-clause-ledger c = simulate_ledger

pub returns-clause-no_ledger : goal.returns-clause-no_ledger
returns-clause-no_ledger c = simulate_no_ledger

pub returns-clause-verdicts : goal.returns-clause-verdicts
returns-clause-verdicts c = simulate_verdicts

pub returns-clause-malformed : goal.returns-clause-malformed
returns-clause-malformed c = simulate_malformed

pub returns-clause-done : goal.returns-clause-done
returns-clause-done c = simulate_done

pub returns-clause-stored : goal.returns-clause-stored
returns-clause-stored c = simulate_stores

pub returns-clause-enforced : goal.returns-clause-enforced
returns-clause-enforced c = simulate_enforced
