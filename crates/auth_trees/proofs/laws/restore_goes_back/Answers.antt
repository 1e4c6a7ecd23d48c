use Rattle.auth_trees.proofs.Later.{goes_back}
use Rattle.auth_trees.proofs.laws.restore_goes_back.Goals as goal

pub returns : goal.returns
returns c = goes_back
