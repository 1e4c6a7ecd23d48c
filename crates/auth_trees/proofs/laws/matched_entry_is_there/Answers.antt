use Rattle.auth_trees.proofs.Authorities.{matched_by}
use Rattle.auth_trees.proofs.laws.matched_entry_is_there.Goals as goal

pub returns : goal.returns
returns c = matched_by
