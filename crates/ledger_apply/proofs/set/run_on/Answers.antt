use Rattle.std.specs.Prelude.{Ok}
use Rattle.std.proofs.Common.{◌≡◌, Bool, List, false, sym, ap, subst, ◌∙◌}
use Rattle.ledger_spec.specs.LedgerMap.{IsLedgerMap}
use Rattle.ledger_file.specs.declared.ledger.Ledger.{Ledger}
use Rattle.stage_runs.specs.Runs.{Reported, RunState, run_set}
use Rattle.apply_spec.specs.Enforced.{enforced}
use Rattle.apply_spec.specs.Outputs.{preimages_of, results_of}
use Rattle.apply_spec.specs.Runs.{running_header}
use Rattle.change_log.specs.Log.{log_format}
use Rattle.change_log.specs.Play.{played}
use Rattle.change_log.specs.declared.log.LoggedStage.{LoggedStage}
use Rattle.change_log.specs.declared.log.Log.{Log}
use Rattle.set_steps.specs.Logged.{logged_stages}
use Rattle.set_steps.specs.LoggedLists.{if_logs, Lead}
use Rattle.set_steps.specs.State.{between}
use Rattle.set_steps.specs.Stages.{clusters_of}
use Rattle.set_steps.proofs.Lemmas.{log_fits, log_leads}
use Rattle.ledger_apply.specs.Final.{run_stages_over}
use Rattle.ledger_apply.proofs.set.run_on.Goals as goal

pub returns-clause-applied : goal.returns-clause-applied
returns-clause-applied g c =
    let old = c.args.ledger in
    let cs = clusters_of c.args.stages.now in
    let step = enforced (running_header old.header c.args.close_time) c.args.verdicts.now in
    let run : between c.run_stages.new.entries c.run_stages.new.reports
    ≡ run_stages_over old.header c.args.verdicts.now old.entries cs c.args.close_time =
    c.in_ok-logged.ensures.run ∙ ap (λ (rs : List Reported). run_set step (between old.entries rs) cs) c.new-reports.ensures in
    record {
      header = ap (λ (l : Ledger). l.header) c.applied_of-applied.ensures.ledger;
      entries = ap (λ (l : Ledger). l.entries) c.applied_of-applied.ensures.ledger ∙ ap (λ (s : RunState). s.entries) run;
      results = c.applied_of-applied.ensures.results ∙ ap results_of run;
      successes = c.applied_of-applied.ensures.successes ∙ ap preimages_of run;
    }

pub returns-clause-map : goal.returns-clause-map
returns-clause-map g c =
    subst (λ (l : Ledger). IsLedgerMap l.entries) (sym c.applied_of-applied.ensures.ledger) c.len-count.ensures.map

pub returns-clause-log : goal.returns-clause-log
returns-clause-log g c =
    let old = c.args.ledger in
    let step = enforced (running_header old.header c.args.close_time) c.args.verdicts.now in
    let cs = clusters_of c.args.stages.now in
    let is = c.in_ok-log.ensures.log in
    record {
      fits = subst (λ (log : Log). log_format.fits log) (sym is)
          (log_fits _ c.log_of.ensures.numbers.0 c.log_of.ensures.numbers.1 c.log_of.ensures.numbers.2 c.in_ok-log.ensures.few
          c.in_ok-logged.ensures.log.fit);
      over = λ e.
          let stages : c.in_ok-logged.logged.items ≡ logged_stages step (between old.entries c.new-reports.result) cs =
          c.in_ok-logged.ensures.log.lists
          ∙ ap (λ (b : Bool). if_logs b (logged_stages step (between old.entries c.new-reports.result) cs)) e in
          is
          ∙ ap
          (λ (ss : List LoggedStage).
          let log : Log = record {
            old_seq = old.header.seq;
            old_close_time = old.header.close_time;
            new_close_time = c.args.close_time;
            stages = ss;
          } in log)
          (stages ∙ ap (λ (rs : List Reported). logged_stages step (between old.entries rs) cs) c.new-reports.ensures);
      forwards = λ e.
          subst (λ (l : Ledger). played false c.in_ok-log.log old.header old.entries ≡ Ok (l.header, l.entries))
          (sym c.applied_of-applied.ensures.ledger)
          (log_leads old.header c.args.close_time c.in_ok-log.log old.entries c.run_stages.new.entries
          (ap (λ (l : Log). l.old_seq) is) (ap (λ (l : Log). l.old_close_time) is) (ap (λ (l : Log). l.new_close_time) is)
          (subst (λ (ss : List LoggedStage). Lead old.entries ss c.run_stages.new.entries) (sym (ap (λ (l : Log). l.stages) is))
          (c.in_ok-logged.ensures.log.lead e)));
    }
