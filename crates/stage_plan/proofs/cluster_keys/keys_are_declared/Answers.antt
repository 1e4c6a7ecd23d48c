use Rattle.stage_plan.proofs.KeptKeys.{declared_law}
use Rattle.stage_plan.proofs.cluster_keys.keys_are_declared.Goals as goal

pub returns : goal.returns
returns c = declared_law
