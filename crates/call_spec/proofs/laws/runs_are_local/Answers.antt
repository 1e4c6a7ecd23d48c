use Rattle.call_spec.proofs.Stopping.{local_law, local_from_law, stop_law, end_to_end_law}
use Rattle.call_spec.proofs.laws.runs_are_local.Goals as goal

pub returns-clause-local : goal.returns-clause-local
returns-clause-local c = local_law

pub returns-clause-local_from : goal.returns-clause-local_from
returns-clause-local_from c = local_from_law

pub returns-clause-stopped : goal.returns-clause-stopped
returns-clause-stopped c = stop_law

pub returns-clause-end_to_end : goal.returns-clause-end_to_end
returns-clause-end_to_end c = end_to_end_law
