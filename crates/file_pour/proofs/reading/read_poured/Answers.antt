use Rattle.file_pour.proofs.reading.read_poured.Goals as goal

pub returns-clause-same : goal.returns-clause-same
returns-clause-same g c = c.read_through.ensures.leaves.same

pub returns-clause-counts : goal.returns-clause-counts
returns-clause-counts g c = c.read_through.ensures.leaves.counts

pub returns-clause-cause : goal.returns-clause-cause
returns-clause-cause g c = c.read_through.ensures.leaves.cause

pub returns-clause-steady : goal.returns-clause-steady
returns-clause-steady g c = c.read_through.ensures.leaves.steadily
