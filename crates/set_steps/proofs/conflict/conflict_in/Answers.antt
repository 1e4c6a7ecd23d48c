use Rattle.std.proofs.Common.{subst}
use Rattle.set_steps.specs.declared.stages.SetStage.{SetStage}
use Rattle.set_steps.specs.Stages.{IsSpelled}
use Rattle.set_steps.proofs.Spelling.{stage_declares}
use Rattle.set_steps.proofs.conflict.conflict_in.Goals as goal

pub find_conflict-requires : goal.find_conflict-requires
find_conflict-requires c = record {
  spelled = stage_declares c.in-Parallel.stage.now (subst (λ (s : SetStage). IsSpelled s) c.in-Parallel.is c.requires);
}
