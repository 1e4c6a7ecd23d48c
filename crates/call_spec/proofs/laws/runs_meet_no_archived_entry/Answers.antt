use Rattle.call_spec.proofs.Archives.{never_archived_law}
use Rattle.call_spec.proofs.laws.runs_meet_no_archived_entry.Goals as goal

pub returns : goal.returns
returns c = never_archived_law
