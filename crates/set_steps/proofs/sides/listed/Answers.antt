use Rattle.set_steps.proofs.sides.listed.Goals as goal

pub returns-clause-ordered : goal.returns-clause-ordered
returns-clause-ordered g c = c.into_iter.ensures.into_iter_gives.5
