use Rattle.auth_trees.proofs.Authorities.{later_self, later_twice, later_demanded, later_back}
use Rattle.auth_trees.proofs.laws.authority_is_later.Goals as goal

pub returns : goal.returns
returns c = record { itself = later_self; again = later_twice; demand = later_demanded; restore = later_back }
