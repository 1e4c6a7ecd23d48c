use Rattle.soroban_top.proofs.Due.{conflict_law, done_law, malformed_law, verdicts_law}
use Rattle.soroban_top.proofs.Ledgers.{applied_law, ledger_law, no_ledger_law}
use Rattle.soroban_top.proofs.laws.apply_laws.Goals as goal

pub returns-clause-malformed : goal.returns-clause-malformed
returns-clause-malformed c = malformed_law

pub returns-clause-conflict : goal.returns-clause-conflict
returns-clause-conflict c = conflict_law

pub returns-clause-done : goal.returns-clause-done
returns-clause-done c = done_law

pub returns-clause-applied : goal.returns-clause-applied
returns-clause-applied c = applied_law

pub returns-clause-verdicts : goal.returns-clause-verdicts
returns-clause-verdicts c = verdicts_law

pub returns-clause-ledger : goal.returns-clause-ledger
returns-clause-ledger c = ledger_law

pub returns-clause-no_ledger : goal.returns-clause-no_ledger
returns-clause-no_ledger c = no_ledger_law
