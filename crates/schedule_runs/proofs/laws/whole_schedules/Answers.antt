use Rattle.schedule_runs.proofs.Stopping.{whole_set}
use Rattle.schedule_runs.proofs.laws.whole_schedules.Goals as goal

pub returns : goal.returns
returns c = whole_set
