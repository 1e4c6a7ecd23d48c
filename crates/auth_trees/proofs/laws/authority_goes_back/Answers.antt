use Rattle.auth_trees.proofs.Authorities.{goes_back_to}
use Rattle.auth_trees.proofs.laws.authority_goes_back.Goals as goal

pub returns : goal.returns
returns c = goes_back_to
