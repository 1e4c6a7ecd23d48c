use Rattle.std.proofs.Common.{◌++◌, List, map, subst, sym, ap, ap₂, ◌∙◌}
use Rattle.stage_runs.specs.Maps.{LedgerMap}
use Rattle.apply_spec.specs.Enforced.{enforced}
use Rattle.apply_spec.proofs.Lemmas.{step_framed}
use Rattle.stage_runs.specs.Runs.{Reported, put_all_in}
use Rattle.set_steps.specs.Spelled.{AreEnvelopes}
use Rattle.set_steps.specs.State.{between, pending_of, reports_of}
use Rattle.std.proofs.lemmas.List.Elements.{recursion_from_All}
use Rattle.change_log.specs.Log.{Changes}
use Rattle.ledger_parts.specs.Notes.{noted_over}
use Rattle.set_steps.specs.LoggedLists.{written_sides}
use Rattle.set_steps.specs.Job.{cluster_of, own_of, IsCut, IsRun}
use Rattle.set_steps.specs.declared.job.Job.{Job}
use Rattle.set_steps.proofs.Lemmas.{all_ended, all_keyed, all_logged, all_sound, all_worked, back_entries, no_stage_log, stage_log}
use Rattle.ledger_apply.proofs.stage.run_parts.Goals as goal

pub work_through-requires-clause-fits : goal.work_through-requires-clause-fits
work_through-requires-clause-fits g c κs within = λ k d l. (c.requires.cut k d l).fits

pub put_back-requires-clause-fits : goal.put_back-requires-clause-fits
put_back-requires-clause-fits g c =
    all_worked (λ (job : Job). AreEnvelopes job.envelopes.now)
    (IsRun (enforced c.args.header.now c.args.verdicts.now) c.args.workers.now.logs c.args.entries.now)
    (λ x y r h. subst AreEnvelopes (sym r.same) h) 0 c.args.parts.items c.in_ok-jobs.jobs.items c.in_ok-jobs.ensures
    (λ k d l. (c.requires.cut k d l).fits)

pub end_logged-requires : goal.end_logged-requires
end_logged-requires g c =
    all_keyed (enforced c.args.header.now c.args.verdicts.now) (step_framed c.args.header.now c.args.verdicts.now)
    c.args.workers.now.logs c.args.entries.now 0 c.args.parts.items c.in_ok-jobs.jobs.items c.in_ok-done.done.items
    c.in_ok-jobs.ensures c.in_ok-done.ensures.done

pub end_stage-requires : goal.end_stage-requires
end_stage-requires g c =
    all_keyed (enforced c.args.header.now c.args.verdicts.now) (step_framed c.args.header.now c.args.verdicts.now)
    c.args.workers.now.logs c.args.entries.now 0 c.args.parts.items c.in_ok-jobs.jobs.items c.in_ok-done.done.items
    c.in_ok-jobs.ensures c.in_ok-done.ensures.done

pub returns-in_ok-stage-clause-run : goal.returns-in_ok-stage-clause-run
returns-in_ok-stage-clause-run g c =
    let lent = c.args.entries.now in
    let ds = c.in_ok-done.done.items in
    ap₂ between (c.in_ok-end.ensures.entries ∙ ap (λ (m : LedgerMap). put_all_in m (pending_of ds)) c.in_ok-done.ensures.entries)
    (c.in_ok-end.ensures.reports ∙ ap (λ (r : List Reported). r ++ reports_of ds) c.reserve.ensures)
    ∙ all_ended (enforced c.args.header.now c.args.verdicts.now) (step_framed c.args.header.now c.args.verdicts.now)
    c.args.workers.now.logs lent c.args.parts.items c.in_ok-jobs.jobs.items ds c.in_ok-jobs.ensures
    c.requires.cut c.requires.moved c.in_ok-done.ensures.done c.args.reports.now

pub returns-in_ok-end_stage-clause-run : goal.returns-in_ok-end_stage-clause-run
returns-in_ok-end_stage-clause-run g c =
    let lent = c.args.entries.now in
    let ds = c.in_ok-done.done.items in
    ap₂ between (c.in_ok-end_stage.ensures.entries ∙ ap (λ (m : LedgerMap). put_all_in m (pending_of ds)) c.in_ok-done.ensures.entries)
    (c.in_ok-end_stage.ensures.reports ∙ ap (λ (r : List Reported). r ++ reports_of ds) c.reserve.ensures)
    ∙ all_ended (enforced c.args.header.now c.args.verdicts.now) (step_framed c.args.header.now c.args.verdicts.now)
    c.args.workers.now.logs lent c.args.parts.items c.in_ok-jobs.jobs.items ds c.in_ok-jobs.ensures
    c.requires.cut c.requires.moved c.in_ok-done.ensures.done c.args.reports.now

pub returns-in_ok-stage-clause-log : goal.returns-in_ok-stage-clause-log
returns-in_ok-stage-clause-log g c =
    let step = enforced c.args.header.now c.args.verdicts.now in
    let laws = step_framed c.args.header.now c.args.verdicts.now in
    let logs = c.args.workers.now.logs in
    let lent = c.args.entries.now in
    let xs = c.args.parts.items in
    let ys = c.in_ok-jobs.jobs.items in
    let ds = c.in_ok-done.done.items in
    let cut = recursion_from_All IsCut xs c.requires.cut in
    let lists = c.in_ok-done.ensures.log
    ∙ ap₂ (λ (a b : List Changes). a ++ b) c.new-lists.ensures.items
    (all_logged step laws logs lent 0 xs ys ds c.in_ok-jobs.ensures cut c.requires.moved c.in_ok-done.ensures.done) in
    let back = c.in_ok-done.ensures.entries
    ∙ back_entries step laws logs lent xs ys ds c.in_ok-jobs.ensures c.requires.cut c.requires.moved c.in_ok-done.ensures.done c.args.reports.now in
    stage_log logs (noted_over step written_sides lent (map own_of xs) (map cluster_of xs)) _ c.put_back.new.entries c.end_logged.new.entries
    c.in_ok-stage.stage c.put_back.new.log.items c.in_ok-end.end c.if-workers.true c.in_ok-stage.ensures.stage lists
    (all_sound step laws logs lent 0 xs ys ds c.in_ok-jobs.ensures cut c.requires.moved c.in_ok-done.ensures.done)
    back c.in_ok-end.ensures.list c.in_ok-end.ensures.sound c.in_ok-stage.ensures.few

pub returns-in_ok-end_stage-clause-log : goal.returns-in_ok-end_stage-clause-log
returns-in_ok-end_stage-clause-log g c = no_stage_log c.args.workers.now.logs _ _ _ c.if-workers.false
