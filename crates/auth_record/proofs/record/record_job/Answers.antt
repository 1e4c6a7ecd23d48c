use Rattle.std.proofs.Common.{◌≡◌}
use Rattle.call_spec.specs.WholeRuns.{meter_of}
use Rattle.tx_apply.specs.Jobs.{work_in}
use Rattle.tx_apply.proofs.Lemmas.{encodable_arguments, meter_is, passed_arguments, stopped_arguments}
use Rattle.auth_record.specs.Given.{terms_in}
use Rattle.auth_record.proofs.Recording.{whole_records, not_records}
use Rattle.auth_record.proofs.record.record_job.Goals as goal

pub enter_all-requires : goal.enter_all-requires
enter_all-requires g c =
    encodable_arguments c.args.job.now c.values.result.now c.budget_of-budget.result c.budget_of-budget.result c.values.ensures c.requires.spelled.values

pub returns-in-Ok-clause-recorded : goal.returns-in-Ok-clause-recorded
returns-in-Ok-clause-recorded g c =
    let header = c.args.header.now in
    let job = c.args.job.now in
    let before = c.budget_of-budget.result in
    let later = c.enter_all.new.budget in
    let is : before ≡ meter_of header c.args.instructions = meter_is header c.args.instructions before c.budget_of-budget.ensures.limits c.budget_of-budget.ensures.terms c.budget_of-budget.ensures.used in
    whole_records header (terms_in c.args.terms) c.args.source c.args.instructions (work_in job) (g.G.Ground.map c.args.ground.now) before later is
    (passed_arguments job c.values.result.now before later c.values.ensures c.in-Ok.ensures.does) c.run.result c.run.ensures.recorded

pub returns-in-Err-clause-recorded : goal.returns-in-Err-clause-recorded
returns-in-Err-clause-recorded g c =
    let header = c.args.header.now in
    let job = c.args.job.now in
    let before = c.budget_of-budget.result in
    let later = c.enter_all.new.budget in
    let is : before ≡ meter_of header c.args.instructions = meter_is header c.args.instructions before c.budget_of-budget.ensures.limits c.budget_of-budget.ensures.terms c.budget_of-budget.ensures.used in
    not_records header (terms_in c.args.terms) c.args.source c.args.instructions (work_in job) (g.G.Ground.map c.args.ground.now) before later is c.in-Err.error
    (stopped_arguments job c.values.result.now before later c.values.ensures c.in-Err.error c.in-Err.ensures.does) c.not_entered.result c.not_entered.ensures.ended c.not_entered.ensures.nothing
