use Rattle.soroban_top.proofs.Logging.{none_kept}
use Rattle.soroban_top.proofs.outputs.make_outputs.Goals as goal

pub returns-in-Some-clause-plays : goal.returns-in-Some-clause-plays
returns-in-Some-clause-plays g c = none_kept c.by_schedule.result c.args.run.now.scheduled.now _ _ _ c.in-Some.is
