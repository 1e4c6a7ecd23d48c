-- The order in which a set runs, if a schedule is given (own).
use Rattle.std.specs.Prelude.{ℕ, List, Option, Some, None, Result, Ok, Err}
use Rattle.apply_spec.specs.Outputs.{Outputs, outputs, outputs_after}
use Rattle.apply_spec.specs.Runs.{new_header}
use Rattle.command_words.specs.declared.request.ScheduleOptions.{ScheduleOptions}
use Rattle.edge_io.specs.Contents.{FileMap}
use Rattle.ledger_spec.specs.LedgerMap.{LedgerMap}
use Rattle.ledger_types.specs.declared.header.Header.{Header}
use Rattle.ledger_types.specs.declared.verdicts.Verdicts.{Verdicts}
use Rattle.schedule_runs.specs.Plans.{first_incomplete, run_stopped}
use Rattle.schedule_runs.specs.Schedule.{schedule_format}
use Rattle.schedule_runs.specs.declared.schedule.Schedule.{Schedule}
use Rattle.tx_xdr.specs.declared.set.TxSet.{TxSet}
use Rattle.xdr_spec.specs.Decoded.{decoded}
use Rattle.xdr_spec.specs.declared.XdrErr.{XdrErr}
use Rattle.command_io.specs.Inputs.{content_of}
use Rattle.command_io.specs.Steps.{◌>>=◌}
use Rattle.command_io.specs.declared.status.Status.{Status}
use Rattle.command_io.specs.declared.status.Status.TheVariants as status
use Rattle.soroban_top.specs.FirstConflict.{free_of_conflict, stages_in}
use Rattle.soroban_top.specs.declared.scheduled.ScheduledSteps.{ScheduledSteps}

-- ---- the schedule's file

abbrev pub as_schedule : {A : Type 0} → Result A XdrErr → Result A Status
as_schedule (Ok schedule) = Ok schedule
as_schedule (Err e) = Err (status.Schedule e.at)

unfoldable pub schedule_in : List ℕ → Result Schedule Status
schedule_in bytes = as_schedule (decoded schedule_format bytes)

abbrev pub schedule_at : FileMap → List ℕ → Result Schedule Status
schedule_at m name = do
  bytes ← content_of m name
  schedule_in bytes

-- a schedule with the number of its steps that run
abbrev pub with_steps : Schedule → ℕ → ScheduledSteps
with_steps schedule steps = record { schedule = schedule; steps = steps }

-- the order in which a set runs: that of a schedule's file, or none
abbrev pub scheduled_at : FileMap → Option ScheduleOptions → Result (Option ScheduledSteps) Status
scheduled_at m None = Ok None
scheduled_at m (Some options) = do
  schedule ← schedule_at m options.file
  Ok (Some (with_steps schedule options.steps))

-- ---- which sets run

abbrev pub unless_incomplete : Option ℕ → Result (Unit {0}) Status
unless_incomplete None = Ok tt
unless_incomplete (Some stage) = Err (status.Incomplete stage)

-- the schedule is complete for the set, or the status of the least index at which it is not
unfoldable pub complete_for : Schedule → TxSet → Result (Unit {0}) Status
complete_for schedule set = unless_incomplete (first_incomplete (stages_in set) schedule.stages)

-- No stage of the set has a conflict, and the schedule is complete, if one is given. Otherwise it is the status of the first
-- conflict, or else that of the first stage for which the schedule is not complete.
abbrev pub may_run : Option ScheduledSteps → TxSet → Result (Unit {0}) Status
may_run None set = free_of_conflict set
may_run (Some scheduled) set = do
  _ ← free_of_conflict set
  complete_for scheduled.schedule set

-- ---- what they leave

-- the outputs of a set over a ledger, with these verdicts, at a close time
unfoldable pub outputs_of : Header × LedgerMap → Verdicts → TxSet → ℕ → Outputs
outputs_of ledger verdicts set close_time = outputs ledger.0 verdicts ledger.1 set close_time

-- the outputs of the first steps of a set, with the header after the whole set
unfoldable pub outputs_stopped : Header × LedgerMap → Verdicts → TxSet → ℕ → ScheduledSteps → Outputs
outputs_stopped ledger verdicts set close_time scheduled =
    outputs_after (new_header ledger.0 close_time)
    (run_stopped ledger.0 verdicts ledger.1 set close_time scheduled.schedule.stages scheduled.steps)

-- the outputs of a set in this order, or in its own
abbrev pub outputs_by : Option ScheduledSteps → Header × LedgerMap → Verdicts → TxSet → ℕ → Outputs
outputs_by None ledger verdicts set close_time = outputs_of ledger verdicts set close_time
outputs_by (Some scheduled) ledger verdicts set close_time = outputs_stopped ledger verdicts set close_time scheduled
