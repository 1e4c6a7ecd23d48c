use Rattle.stage_codes.proofs.found.listed.Goals as goal

pub returns-clause-ordered : goal.returns-clause-ordered
returns-clause-ordered c = c.into_iter.ensures.into_iter_gives.5
