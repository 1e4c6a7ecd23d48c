use Rattle.soroban_top.proofs.FirstConflicts.{first_conflict_is, no_conflict_is}
use Rattle.soroban_top.proofs.laws.first_conflict_laws.Goals as goal

pub returns-clause-found : goal.returns-clause-found
returns-clause-found c = first_conflict_is

pub returns-clause-none : goal.returns-clause-none
returns-clause-none c = no_conflict_is
