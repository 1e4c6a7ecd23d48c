use Rattle.set_build.proofs.Declaring.{none_known}
use Rattle.set_build.proofs.last_stage.LastStage.new.Goals as goal

pub returns : goal.returns
returns c = record { keys = none_known c.new.result c.new.ensures.empty; counts = c.new-2.ensures.none; ranked = c.new-2.ensures.ranked }
