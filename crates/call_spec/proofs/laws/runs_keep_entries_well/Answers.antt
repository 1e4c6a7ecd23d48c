use Rattle.call_spec.proofs.Kept.{kept_law, kept_from_law}
use Rattle.call_spec.proofs.laws.runs_keep_entries_well.Goals as goal

pub returns-clause-kept : goal.returns-clause-kept
returns-clause-kept c = kept_law

pub returns-clause-kept_from : goal.returns-clause-kept_from
returns-clause-kept_from c = kept_from_law
