use Rattle.std.proofs.Common.{◌≡◌}
use Rattle.call_spec.specs.WholeRuns.{meter_of}
use Rattle.tx_apply.specs.Authorities.{authority_in}
use Rattle.tx_steps.specs.Jobs.{work_in}
use Rattle.tx_apply.proofs.Running.{meter_is}
use Rattle.tx_apply.proofs.Arguments.{passed_arguments, stopped_arguments, encodable_arguments}
use Rattle.tx_apply.proofs.Needing.{whole_needs, no_needs}
use Rattle.tx_apply.proofs.recording.record.Goals as goal

pub enter_all-requires : goal.enter_all-requires
enter_all-requires g c =
    encodable_arguments c.args.job.now c.values.result.now c.budget_of-budget.result c.budget_of-budget.result c.values.ensures c.requires.spelled.values

pub returns-in-Ok-clause-needs : goal.returns-in-Ok-clause-needs
returns-in-Ok-clause-needs g c =
    let header = c.args.header.now in
    let entries = g.G.Ground.map c.args.ground.now in
    let authority = authority_in c.args.authority.now in
    let job = c.args.job.now in
    let before = c.budget_of-budget.result in
    let later = c.enter_all.new.budget in
    let is : before ≡ meter_of header c.args.instructions = meter_is header c.args.instructions before c.budget_of-budget.ensures.limits c.budget_of-budget.ensures.terms c.budget_of-budget.ensures.used in
    whole_needs header authority c.args.instructions (work_in job) entries before later is
    (passed_arguments job c.values.result.now before later c.values.ensures c.in-Ok.ensures.does) c.run_recorded.result c.run_recorded.ensures.needs

pub returns-in-Err-clause-needs : goal.returns-in-Err-clause-needs
returns-in-Err-clause-needs g c =
    let header = c.args.header.now in
    let entries = g.G.Ground.map c.args.ground.now in
    let authority = authority_in c.args.authority.now in
    let job = c.args.job.now in
    let before = c.budget_of-budget.result in
    let later = c.enter_all.new.budget in
    let is : before ≡ meter_of header c.args.instructions = meter_is header c.args.instructions before c.budget_of-budget.ensures.limits c.budget_of-budget.ensures.terms c.budget_of-budget.ensures.used in
    no_needs header authority c.args.instructions (work_in job) entries before later is c.in-Err.error
    (stopped_arguments job c.values.result.now before later c.values.ensures c.in-Err.error c.in-Err.ensures.does)
    c.spent.result c.spent.ensures.sums c.not_entered.result c.not_entered.ensures.ended c.not_entered.ensures.needs
