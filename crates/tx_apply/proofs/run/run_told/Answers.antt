use Rattle.tx_steps.specs.Jobs.{work_in}
use Rattle.tx_apply.proofs.Ending.{charged_ends, failed_ends, charged_recorded, failed_recorded}
use Rattle.tx_apply.proofs.Watching.{told_charged}
use Rattle.tx_apply.proofs.run.run_told.Goals as goal

pub returns-in-Ok-clause-ends : goal.returns-in-Ok-clause-ends
returns-in-Ok-clause-ends g c =
    charged_ends (work_in c.args.job.now) c.args.host.now c.perform.new.host c.charged.new.budget c.in-Ok.value c.charged.result c.in-Ok.ensures.ends c.charged.ensures

pub returns-in-Err-clause-ends : goal.returns-in-Err-clause-ends
returns-in-Err-clause-ends g c = failed_ends (work_in c.args.job.now) c.args.host.now c.perform.new.host c.in-Err.end c.in-Err.ensures.ends

pub returns-in-Ok-clause-recorded : goal.returns-in-Ok-clause-recorded
returns-in-Ok-clause-recorded g c =
    charged_recorded (work_in c.args.job.now) c.args.host.now c.perform.new.host c.charged.new.budget c.in-Ok.value c.charged.result c.in-Ok.ensures.recorded c.charged.ensures

pub returns-in-Err-clause-recorded : goal.returns-in-Err-clause-recorded
returns-in-Err-clause-recorded g c = failed_recorded (work_in c.args.job.now) c.args.host.now c.perform.new.host c.in-Err.end c.in-Err.ensures.recorded

pub returns-in-Ok-clause-told : goal.returns-in-Ok-clause-told
returns-in-Ok-clause-told g c =
    told_charged (work_in c.args.job.now) c.args.host.now c.perform.new.host c.charged.new.budget c.in-Ok.value c.charged.result c.in-Ok.ensures.told

pub returns-in-Err-clause-told : goal.returns-in-Err-clause-told
returns-in-Err-clause-told g c = c.in-Err.ensures.told
