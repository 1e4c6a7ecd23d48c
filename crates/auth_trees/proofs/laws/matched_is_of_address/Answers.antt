use Rattle.auth_trees.proofs.Later.{matched_is}
use Rattle.auth_trees.proofs.laws.matched_is_of_address.Goals as goal

pub returns : goal.returns
returns c = matched_is
