use Rattle.auth_trees.proofs.Later.{later_itself, later_again, later_demand, later_restore}
use Rattle.auth_trees.proofs.laws.later_is_later.Goals as goal

pub returns : goal.returns
returns c = record { itself = later_itself; again = later_again; demand = later_demand; restore = later_restore }
