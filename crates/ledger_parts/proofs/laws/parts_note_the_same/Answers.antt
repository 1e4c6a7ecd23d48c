use Rattle.ledger_parts.proofs.Notes.{noted_alike, noted_seen, noted_cut}
use Rattle.ledger_parts.proofs.laws.parts_note_the_same.Goals as goal

pub returns-clause-frame : goal.returns-clause-frame
returns-clause-frame g c step note m n cluster laws framed h = noted_alike step laws note framed m n cluster h

pub returns-clause-seen : goal.returns-clause-seen
returns-clause-seen g c step note reads lent own cluster laws framed passes none = noted_seen step laws note framed reads lent own cluster passes none

pub returns-clause-cut : goal.returns-clause-cut
returns-clause-cut g c step note running clusters laws framed free = noted_cut step laws note framed running clusters free
