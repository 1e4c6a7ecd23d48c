use Rattle.std.specs.Prelude.{IfSome}
use Rattle.std.proofs.Common.{◌≡◌, ap, sym, subst, ◌∙◌}
use Rattle.budget_meter.specs.declared.budget.Used.{Used}
use Rattle.host_spec.specs.declared.error.HostErr.{HostErr}
use Rattle.call_spec.specs.World.{next_seq}
use Rattle.call_spec.specs.WholeRuns.{meter_of, whole}
use Rattle.call_spec.specs.Invoked as spec
use Rattle.call_spec.specs.Invoked.{by_run}
use Rattle.tx_apply.specs.Authorities.{authority_in}
use Rattle.tx_steps.specs.Jobs.{work_in}
use Rattle.tx_steps.specs.CallResults.{result_of}
use Rattle.tx_steps.specs.Outcomes.{ended_of_call}
use Rattle.tx_apply.proofs.Running.{whole_entered, stopped_comes, meter_is}
use Rattle.tx_steps.proofs.Lemmas.{done_from, ended_done, ended_can}
use Rattle.tx_apply.proofs.Arguments.{passed_arguments, stopped_arguments, encodable_arguments}
use Rattle.tx_apply.proofs.Watching.{entered_seen, stopped_seen, seen_as, seen_stopped}
use Rattle.tx_apply.proofs.call.enter_and_run.Goals as goal

pub enter_all-requires : goal.enter_all-requires
enter_all-requires g c =
    encodable_arguments c.args.job.now c.values.result.now c.budget_of-budget.result c.budget_of-budget.result c.values.ensures c.requires.spelled.values

pub returns-in-Ok-clause-done : goal.returns-in-Ok-clause-done
returns-in-Ok-clause-done g c =
    let header = c.args.header.now in
    let resources = c.args.resources.now in
    let entries = g.G.Ground.map c.args.ground.now in
    let authority = authority_in c.args.authority.now in
    let job = c.args.job.now in
    let before = c.budget_of-budget.result in
    let later = c.enter_all.new.budget in
    let is : before ≡ meter_of header resources.instructions = meter_is header resources.instructions before c.budget_of-budget.ensures.limits c.budget_of-budget.ensures.terms c.budget_of-budget.ensures.used in
    done_from c.run.result _ _
    (ap (ended_of_call entries resources.footprint) (sym (whole_entered (next_seq header) resources entries header authority (work_in job) before later is (passed_arguments job c.values.result.now before later c.values.ensures c.in-Ok.ensures.does))))
    c.run.ensures.done

pub returns-in-Err-clause-done : goal.returns-in-Err-clause-done
returns-in-Err-clause-done g c =
    let header = c.args.header.now in
    let resources = c.args.resources.now in
    let entries = g.G.Ground.map c.args.ground.now in
    let authority = authority_in c.args.authority.now in
    let job = c.args.job.now in
    let before = c.budget_of-budget.result in
    let later = c.enter_all.new.budget in
    let is : before ≡ meter_of header resources.instructions = meter_is header resources.instructions before c.budget_of-budget.ensures.limits c.budget_of-budget.ensures.terms c.budget_of-budget.ensures.used in
    let x = by_run (next_seq header) resources entries (whole header authority resources.instructions (work_in job) entries) in
    let comes = stopped_comes (next_seq header) resources entries header authority (work_in job) before later is c.in-Err.end
    (stopped_arguments job c.values.result.now before later c.values.ensures c.in-Err.end c.in-Err.ensures.does) in
    ended_done c.spent.result entries resources.footprint x c.ended.result c.from.result
    (subst (λ (u : Used). IfSome (result_of c.from.result) (λ k. spec.unsuccessful k entries u ≡ x)) (sym c.spent.ensures.sums)
    (subst (λ (end : HostErr). IfSome (result_of end) (λ k. spec.unsuccessful k entries later.used ≡ x)) (sym c.from.ensures) comes))
    c.ended.ensures.done

pub returns-in-Err-clause-can : goal.returns-in-Err-clause-can
returns-in-Err-clause-can g c = ended_can c.spent.result c.ended.result c.from.result c.ended.ensures.done

pub returns-in-Ok-clause-seen : goal.returns-in-Ok-clause-seen
returns-in-Ok-clause-seen g c =
    let header = c.args.header.now in
    let resources = c.args.resources.now in
    let entries = g.G.Ground.map c.args.ground.now in
    let authority = authority_in c.args.authority.now in
    let job = c.args.job.now in
    let before = c.budget_of-budget.result in
    let later = c.enter_all.new.budget in
    let is : before ≡ meter_of header resources.instructions = meter_is header resources.instructions before c.budget_of-budget.ensures.limits c.budget_of-budget.ensures.terms c.budget_of-budget.ensures.used in
    seen_as g.W.Watch.seen c.run.result _ _
    (entered_seen header authority resources entries (work_in job) before later is (passed_arguments job c.values.result.now before later c.values.ensures c.in-Ok.ensures.does))
    c.run.ensures.seen

pub returns-in-Err-clause-seen : goal.returns-in-Err-clause-seen
returns-in-Err-clause-seen g c =
    let header = c.args.header.now in
    let resources = c.args.resources.now in
    let entries = g.G.Ground.map c.args.ground.now in
    let authority = authority_in c.args.authority.now in
    let job = c.args.job.now in
    let before = c.budget_of-budget.result in
    let later = c.enter_all.new.budget in
    let is : before ≡ meter_of header resources.instructions = meter_is header resources.instructions before c.budget_of-budget.ensures.limits c.budget_of-budget.ensures.terms c.budget_of-budget.ensures.used in
    seen_stopped g.W.Watch.seen c.ended.result c.args.watch c.from.result _
    (λ n. stopped_seen header authority resources entries (work_in job) before later is c.in-Err.end
    (stopped_arguments job c.values.result.now before later c.values.ensures c.in-Err.end c.in-Err.ensures.does) (λ e. n (c.from.ensures ∙ e)))
    c.requires.fresh c.ended.ensures.watch c.ended.ensures.memory
