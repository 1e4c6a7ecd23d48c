use Rattle.record_spec.proofs.Agree.{agreed_law, enough_law}
use Rattle.record_spec.proofs.recorded_entries_suffice.Goals as goal

pub returns-clause-runs : goal.returns-clause-runs
returns-clause-runs c = agreed_law

pub returns-clause-transactions : goal.returns-clause-transactions
returns-clause-transactions c = enough_law
