use Rattle.std.specs.List.{AllByRecursion}
use Rattle.std.specs.Result.{IfErr, IfOk}
use Rattle.std.proofs.Common.{◌≡◌, None, List, All, sym, subst}
use Rattle.stage_runs.specs.Runs.{HasNoConflict}
use Rattle.apply_spec.specs.Outputs.{preimages_of, results_of}
use Rattle.set_steps.specs.declared.stages.SetStage.{SetStage}
use Rattle.set_steps.specs.Stages.{IsSpelled}
use Rattle.set_steps.proofs.Lemmas.{listed_spelled}
use Rattle.schedule_runs.specs.Plans.{first_incomplete, run_stopped_over}
use Rattle.schedule_runs.specs.Refused.{IsRefused}
use Rattle.schedule_runs.proofs.Stopping.{carried, listed}
use Rattle.schedule_runs.proofs.set.run_schedule.Goals as goal

pub run_stages-requires-clause-fits : goal.run_stages-requires-clause-fits
run_stages-requires-clause-fits c =
    subst (λ (ss : List SetStage). All IsSpelled ss) (sym c.deref.ensures.value) (listed_spelled c.args.set.now c.in_ok-stages.stages.items c.requires.fits c.in_ok-stages.ensures)

pub returns-clause-refused : goal.returns-clause-refused
returns-clause-refused c =
    carried (λ ss os. IfErr c.run_stages.result (IsRefused ss os c.args.ledger)) _ _ _ _
    (listed c.args.set.now _ _ c.deref.ensures.value c.in_ok-stages.ensures) c.as_slice-orders.ensures c.run_stages.ensures.refused

pub returns-clause-free : goal.returns-clause-free
returns-clause-free c =
    carried (λ ss os. IfOk c.run_stages.result (λ _. AllByRecursion HasNoConflict ss)) _ _ _ _
    (listed c.args.set.now _ _ c.deref.ensures.value c.in_ok-stages.ensures) c.as_slice-orders.ensures c.run_stages.ensures.free

pub returns-clause-complete : goal.returns-clause-complete
returns-clause-complete c =
    carried (λ ss os. IfOk c.run_stages.result (λ _. first_incomplete ss os ≡ None)) _ _ _ _
    (listed c.args.set.now _ _ c.deref.ensures.value c.in_ok-stages.ensures) c.as_slice-orders.ensures c.run_stages.ensures.complete

pub returns-clause-entries : goal.returns-clause-entries
returns-clause-entries c =
    carried (λ ss os. IfOk c.run_stages.result (λ a. a.ledger.entries ≡ (run_stopped_over c.args.ledger.header c.args.verdicts.now c.args.ledger.entries ss c.args.close_time os c.args.steps).entries)) _ _ _ _
    (listed c.args.set.now _ _ c.deref.ensures.value c.in_ok-stages.ensures) c.as_slice-orders.ensures c.run_stages.ensures.entries

pub returns-clause-results : goal.returns-clause-results
returns-clause-results c =
    carried (λ ss os. IfOk c.run_stages.result (λ a. a.results.pairs ≡ results_of (run_stopped_over c.args.ledger.header c.args.verdicts.now c.args.ledger.entries ss c.args.close_time os c.args.steps))) _ _ _ _
    (listed c.args.set.now _ _ c.deref.ensures.value c.in_ok-stages.ensures) c.as_slice-orders.ensures c.run_stages.ensures.results

pub returns-clause-successes : goal.returns-clause-successes
returns-clause-successes c =
    carried (λ ss os. IfOk c.run_stages.result (λ a. a.successes ≡ preimages_of (run_stopped_over c.args.ledger.header c.args.verdicts.now c.args.ledger.entries ss c.args.close_time os c.args.steps))) _ _ _ _
    (listed c.args.set.now _ _ c.deref.ensures.value c.in_ok-stages.ensures) c.as_slice-orders.ensures c.run_stages.ensures.successes
