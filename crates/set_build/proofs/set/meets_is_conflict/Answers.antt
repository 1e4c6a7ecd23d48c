use Rattle.set_build.proofs.Meets.{meets_law}
use Rattle.set_build.proofs.set.meets_is_conflict.Goals as goal

pub returns : goal.returns
returns c = meets_law
