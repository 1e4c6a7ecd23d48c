use Rattle.call_spec.proofs.Written.{written_law, read_only_law}
use Rattle.call_spec.proofs.laws.runs_keep_what_they_do_not_write.Goals as goal

pub returns-clause-written : goal.returns-clause-written
returns-clause-written c = written_law

pub returns-clause-read_only : goal.returns-clause-read_only
returns-clause-read_only c = read_only_law
