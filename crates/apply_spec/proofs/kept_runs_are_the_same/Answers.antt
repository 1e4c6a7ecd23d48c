use Rattle.apply_spec.proofs.Listed.{resimulated, agrees_law, kept_run}
use Rattle.apply_spec.proofs.kept_runs_are_the_same.Goals as goal

pub returns-clause-same : goal.returns-clause-same
returns-clause-same c = resimulated

pub returns-clause-agrees : goal.returns-clause-agrees
returns-clause-agrees c = agrees_law

pub returns-clause-kept : goal.returns-clause-kept
returns-clause-kept c = kept_run
