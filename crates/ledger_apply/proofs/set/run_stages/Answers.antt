use Rattle.std.proofs.Common.{◌≡◌, ◌+◌, ◌∷◌, [], ◌++◌, List, take, refl, sym, ap, subst, ◌∙◌, arith}
use Rattle.std.proofs.lemmas.List.{map-append}
use Rattle.stage_runs.specs.Runs.{RunState, Stage, run_stage, clusters_in}
use Rattle.apply_spec.specs.Enforced.{enforced}
use Rattle.apply_spec.proofs.Lemmas.{step_framed}
use Rattle.change_log.specs.declared.log.LoggedStage.{LoggedStage}
use Rattle.set_steps.specs.LoggedLists.{list_if, AreStageLogs}
use Rattle.set_steps.specs.State.{between}
use Rattle.set_steps.specs.Stages.{stage_of, clusters_of}
use Rattle.set_steps.specs.declared.stages.SetStage.{SetStage}
use Rattle.set_steps.proofs.Lemmas.{all_kept, fold_more_of, free_at, stages_more, stages_none, take_all, take_one_more}
use Rattle.ledger_apply.proofs.set.run_stages.Goals as goal

pub loop-index-init : goal.loop-index-init
loop-index-init g c =
    let step = enforced c.args.header.now c.args.verdicts.now in
    let first = between c.args.entries.now c.args.reports.now in
    record {
      run = refl;
      kept = λ e. all_kept c.args.entries.now c.len-count.ensures.map;
      log = subst (λ (log : List LoggedStage). AreStageLogs c.args.workers.now.logs step first [] c.args.entries.now log)
          (sym c.new-log.ensures.items) (stages_none c.args.workers.now.logs step first);
    }

pub run_one-requires-clause-free : goal.run_one-requires-clause-free
run_one-requires-clause-free g c κs within = free_at c.args.stages.now c.loop-index.index c.index-stages-index.result c.loop-index-test.true c.index-stages-index.is c.requires.free

pub loop-index-preserved : goal.loop-index-preserved
loop-index-preserved g c =
    let step = enforced c.args.header.now c.args.verdicts.now in
    let item = c.index-stages-index.result in
    let i = c.loop-index.index in
    let cs = clusters_in (stage_of item) in
    let first = between c.args.entries.now c.args.reports.now in
    let s = between c.loop-index.entries c.loop-index.reports in
    let logs = c.args.workers.now.logs in
    let more : clusters_of (take (i + 1) c.args.stages.now) ≡ clusters_of (take i c.args.stages.now) ++ cs ∷ [] =
    ap clusters_of (take_one_more c.args.stages.now i item c.loop-index-test.true c.index-stages-index.is)
    ∙ map-append (λ (t : SetStage). clusters_in (stage_of t)) (take i c.args.stages.now) (item ∷ []) in
    record {
      run = c.in_ok-logged.ensures.run
          ∙ ap (λ (r : RunState). run_stage step r cs) c.loop-index.invariant.run
          ∙ sym (fold_more_of (run_stage step) (λ (t : SetStage). clusters_in (stage_of t)) first c.args.stages.now i item c.loop-index-test.true c.index-stages-index.is);
      kept = λ e. (c.in_ok-logged.ensures.log.end e).after;
      log = subst (λ (log : List LoggedStage). AreStageLogs logs step first (clusters_of (take (i + 1) c.args.stages.now)) c.run_one.new.entries log)
          (sym c.in_ok-push_stage.ensures)
          (subst (λ (ss : List Stage). AreStageLogs logs step first ss c.run_one.new.entries (c.loop-index.log.items ++ list_if c.in_ok-logged.logged)) (sym more)
          (stages_more step (step_framed c.args.header.now c.args.verdicts.now) logs first s (clusters_of (take i c.args.stages.now)) cs
          c.run_one.new.entries c.loop-index.log.items c.in_ok-logged.logged c.loop-index.invariant.run
          (ap (λ (r : RunState). r.entries) c.in_ok-logged.ensures.run) c.loop-index.invariant.kept c.loop-index.invariant.log
          c.in_ok-logged.ensures.log));
    }

pub returns-clause-log : goal.returns-clause-log
returns-clause-log g c =
    let step = enforced c.args.header.now c.args.verdicts.now in
    subst
    (λ (ss : List SetStage). AreStageLogs c.args.workers.now.logs step (between c.args.entries.now c.args.reports.now) (clusters_of ss)
    c.loop-index.entries c.loop-index.log.items)
    (take_all c.args.stages.now c.loop-index.index (omega arith) (omega arith)) c.loop-index.invariant.log
