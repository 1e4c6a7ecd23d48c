use Rattle.set_build.proofs.Building.{built_law}
use Rattle.set_build.proofs.set.built_stages_are_sound.Goals as goal

pub returns : goal.returns
returns c = built_law
