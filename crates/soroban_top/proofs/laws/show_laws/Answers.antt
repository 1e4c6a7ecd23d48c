use Rattle.soroban_top.proofs.Ledgers.{ledger_done, ledger_shown}
use Rattle.soroban_top.proofs.Shows.{envelope_done, envelope_malformed, set_done, set_malformed, value_done, value_malformed}
use Rattle.soroban_top.proofs.laws.show_laws.Goals as goal

pub returns-clause-set_malformed : goal.returns-clause-set_malformed
returns-clause-set_malformed c = set_malformed

pub returns-clause-set_done : goal.returns-clause-set_done
returns-clause-set_done c = set_done

pub returns-clause-envelope_malformed : goal.returns-clause-envelope_malformed
returns-clause-envelope_malformed c = envelope_malformed

pub returns-clause-envelope_done : goal.returns-clause-envelope_done
returns-clause-envelope_done c = envelope_done

pub returns-clause-value_malformed : goal.returns-clause-value_malformed
returns-clause-value_malformed c = value_malformed

pub returns-clause-value_done : goal.returns-clause-value_done
returns-clause-value_done c = value_done

pub returns-clause-ledger_refused : goal.returns-clause-ledger_refused
returns-clause-ledger_refused c = ledger_shown

pub returns-clause-ledger_done : goal.returns-clause-ledger_done
returns-clause-ledger_done c = ledger_done
