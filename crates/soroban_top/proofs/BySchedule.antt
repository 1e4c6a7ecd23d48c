-- The order in which a set runs, and sets that run by a schedule.
use Rattle.std.specs.List.{AllByRecursion}
use Rattle.std.proofs.Common.{◌≡◌, ◌≤◌, ℕ, List, Option, Some, None, Result, Ok, Err, refl, sym, ap}
use Rattle.apply_spec.specs.Outputs.{outputs_after}
use Rattle.apply_spec.specs.Runs.{new_header}
use Rattle.command_words.specs.declared.request.ScheduleOptions.{ScheduleOptions}
use Rattle.edge_io.specs.Contents.{FileMap}
use Rattle.ledger_spec.specs.LedgerMap.{LedgerMap}
use Rattle.ledger_types.specs.declared.header.Header.{Header}
use Rattle.ledger_types.specs.declared.verdicts.Verdicts.{Verdicts}
use Rattle.schedule_runs.specs.Plans.{first_incomplete, steps_of}
use Rattle.schedule_runs.specs.Schedule.{schedule_format, schedule_lawful}
use Rattle.schedule_runs.proofs.Lemmas.{few_steps, whole_set}
use Rattle.stage_runs.specs.Conflicts.{IsFirstConflict}
use Rattle.stage_runs.specs.Runs.{HasNoConflict}
use Rattle.tx_xdr.specs.declared.set.TxSet.{TxSet}
use Rattle.xdr_spec.proofs.Lemmas.{spells_decoded}
use Rattle.command_io.specs.Steps.{◌>>=◌}
use Rattle.command_io.specs.declared.status.Status.{Status}
use Rattle.command_io.specs.declared.status.Status.TheVariants.{Conflict, Incomplete}
use Rattle.soroban_top.specs.FirstConflict.{stages_in}
use Rattle.soroban_top.specs.Laws.{AllStepsLaw, CanRun, IsScheduled}
use Rattle.soroban_top.specs.Scheduled.{complete_for, may_run, scheduled_at, outputs_of, outputs_stopped, schedule_in, unless_incomplete}
use Rattle.soroban_top.specs.declared.scheduled.ScheduledSteps.{ScheduledSteps}
use Rattle.soroban_top.proofs.Made.{conflict_is, free_is}

-- the order that is read
pub scheduled_found : (options : Option ScheduleOptions) (m : FileMap) (scheduled : Option ScheduledSteps) → IsScheduled options m scheduled → scheduled_at m options ≡ Ok scheduled
unfolding schedule_in
scheduled_found None m scheduled is = ap Ok (sym is)
scheduled_found (Some options) m scheduled is =
    let decoded = spells_decoded schedule_format schedule_lawful is.0 is.1.bytes is.1.spells in
    rw (is.1.has_bytes, decoded, is.2) refl

-- ---- whether a set runs

pub scheduled_free : (scheduled : ScheduledSteps) (set : TxSet) → AllByRecursion HasNoConflict (stages_in set) → first_incomplete (stages_in set) scheduled.schedule.stages ≡ None → may_run (Some scheduled) set ≡ Ok tt
unfolding complete_for
scheduled_free scheduled set free complete = rw (free_is set free) (ap unless_incomplete complete)

pub scheduled_conflict : (scheduled : ScheduledSteps) (set : TxSet) (stage a b : ℕ) (key : List ℕ) → IsFirstConflict (stages_in set) stage a b key → may_run (Some scheduled) set ≡ Err (Conflict stage a b key)
scheduled_conflict scheduled set stage a b key first = rw (conflict_is set stage a b key first) refl

pub scheduled_incomplete : (scheduled : ScheduledSteps) (set : TxSet) (stage : ℕ) → AllByRecursion HasNoConflict (stages_in set) → first_incomplete (stages_in set) scheduled.schedule.stages ≡ Some stage → may_run (Some scheduled) set ≡ Err (Incomplete stage)
unfolding complete_for
scheduled_incomplete scheduled set stage free is = rw (free_is set free) (ap unless_incomplete is)

-- ---- schedules whose steps all run

-- no schedule that is read has more steps than all
pub all_steps_law : AllStepsLaw
all_steps_law None m scheduled is all = absurd cc
all_steps_law (Some options) m scheduled is all =
    let same : scheduled.schedule ≡ is.0 = cc in
    rw (all, same) (few_steps is.0 is.1.spells.fits)

-- the outputs are those of the set
pub whole_outputs : (scheduled : ScheduledSteps) (ledger : Header × LedgerMap) (verdicts : Verdicts) (set : TxSet) (close_time : ℕ) → CanRun (Some scheduled) set → steps_of scheduled.schedule.stages ≤ scheduled.steps
    → outputs_stopped ledger verdicts set close_time scheduled ≡ outputs_of ledger verdicts set close_time
unfolding outputs_stopped outputs_of
whole_outputs scheduled ledger verdicts set close_time can all =
    ap (outputs_after (new_header ledger.0 close_time))
    (whole_set ledger.0 verdicts ledger.1 set close_time scheduled.schedule.stages scheduled.steps can.0 can.1 all)

-- two steps that go on alike
pub same_after : {A B : Type 0} (r : Result A Status) (f g : A → Result B Status) → ((x : A) → f x ≡ g x) → (r >>= f) ≡ (r >>= g)
same_after (Ok x) f g same = same x
same_after (Err e) f g same = refl
