use Rattle.ledger_parts.proofs.Seen.{seen_run, cut_run}
use Rattle.ledger_parts.proofs.laws.parts_as_they_are_cut.Goals as goal

pub returns-clause-seen : goal.returns-clause-seen
returns-clause-seen c step reads lent own cluster laws passes moved = seen_run step laws reads lent cluster own passes moved

pub returns-clause-cut : goal.returns-clause-cut
returns-clause-cut c step running clusters laws free = cut_run step laws running clusters free
