-- The outcome of a command, if the content of its files is known (own).
use Rattle.std.specs.Prelude.{ℕ, false, List, [], ◌∷◌, Option, Some, None, Result, Ok, Err}
use Rattle.apply_spec.specs.Outputs.{Outputs}
use Rattle.apply_spec.specs.Runs.{running_header}
use Rattle.apply_spec.specs.SimulationFile.{SimulationOutputs, simulation_outputs}
use Rattle.command_words.specs.declared.request.ApplyRequest.{ApplyRequest}
use Rattle.command_words.specs.declared.request.Request.{Request}
use Rattle.command_words.specs.declared.request.Request.TheVariants.{Apply, ApplyList, Build, Gen, Migrate, Play, Record, Show}
use Rattle.command_words.specs.declared.request.Request.TheVariants.{Simulate, Vet}
use Rattle.edge_io.specs.Contents.{FileMap}
use Rattle.ledger_spec.specs.LedgerMap.{LedgerMap}
use Rattle.ledger_types.specs.declared.header.Header.{Header}
use Rattle.ledger_types.specs.declared.verdicts.Verdicts.{Verdicts}
use Rattle.tx_xdr.specs.declared.envelope.Envelope.{Envelope}
use Rattle.tx_xdr.specs.declared.set.TxSet.{TxSet}
use Rattle.command_io.specs.Inputs.{ledger_at, verdicts_at, set_at, envelope_at, any_ledger_at, log_at, list_at}
use Rattle.command_io.specs.Product.{Made, File, file}
use Rattle.command_io.specs.Shown.{shown_at}
use Rattle.command_io.specs.Steps.{◌>>=◌, status_of}
use Rattle.command_io.specs.Vetted.{vetted_at}
use Rattle.command_io.specs.declared.status.Status.{Status}
use Rattle.command_io.specs.declared.status.Status.TheVariants.{Usage}
use Rattle.soroban_top.specs.Asked.{log_asked}
use Rattle.soroban_top.specs.EntriesRecorded.{entries_stored, recorded_for}
use Rattle.soroban_top.specs.Generating.{generated}
use Rattle.soroban_top.specs.ListApplied.{outputs_of_list}
use Rattle.soroban_top.specs.LogStored.{log_bytes, with_log}
use Rattle.soroban_top.specs.Migrated.{migrated}
use Rattle.soroban_top.specs.Scheduled.{scheduled_at, may_run, outputs_by}
use Rattle.soroban_top.specs.Replayed.{played_ledger_at, replayed}
use Rattle.soroban_top.specs.SetBuilt.{set_built}
use Rattle.soroban_top.specs.declared.scheduled.ScheduledSteps.{ScheduledSteps}

-- the report is stored, then the new ledger; then the lines are printed
abbrev pub applied : File → File → Outputs → Made
applied report ledger_out made = record {
  stores = record { file = report; bytes = made.report } ∷ record { file = ledger_out; bytes = made.ledger } ∷ [];
  lines = made.lines;
}

-- What is stored and printed for a set that runs in this order, or in its own. The change log is stored last, if one is asked
-- for.
abbrev pub applied_by : ApplyRequest → Header × LedgerMap → Verdicts → Option ScheduledSteps → TxSet → Made
applied_by a ledger verdicts scheduled set =
    with_log (log_asked scheduled a.log) (log_bytes ledger verdicts set a.close_time)
    (applied (file 3 a.report) (file 4 a.ledger_out) (outputs_by scheduled ledger verdicts set a.close_time))

-- the footprint and the result are stored; then the lines are printed
abbrev pub simulated : File → SimulationOutputs → Made
simulated out made = record { stores = record { file = out; bytes = made.file } ∷ []; lines = made.lines }

-- nothing is stored, and these lines are printed
abbrev pub only_said : List ℕ → Made
only_said lines = record { stores = []; lines = lines }

-- the outputs of an envelope over a ledger, with these verdicts, at a close time
unfoldable pub simulation_of : Header × LedgerMap → Verdicts → Envelope → ℕ → SimulationOutputs
simulation_of ledger verdicts envelope close_time =
    simulation_outputs (running_header ledger.0 close_time) verdicts ledger.1 envelope

-- The outcome of a command: each file is checked before the next is read. A set is run only if none of its stages has a conflict,
-- and if the schedule is complete that is given for it.
abbrev pub outcome_of : Request → FileMap → Result Made Status
outcome_of (Apply a) m = do
  ledger ← ledger_at m a.ledger
  verdicts ← verdicts_at m a.verdicts
  set ← set_at m a.base64 a.set
  scheduled ← scheduled_at m a.schedule
  _ ← may_run scheduled set
  Ok (applied_by a ledger verdicts scheduled set)
outcome_of (Simulate s) m = do
  ledger ← ledger_at m s.ledger
  verdicts ← verdicts_at m s.verdicts
  envelope ← envelope_at m s.base64 s.tx
  Ok (simulated (file 3 s.out) (simulation_of ledger verdicts envelope s.close_time))
outcome_of (Show s) m = do
  lines ← shown_at m s
  Ok (only_said lines)
outcome_of (Vet v) m = do
  lines ← vetted_at m v.module_file
  Ok (only_said lines)
outcome_of (Migrate g) m = do
  ledger ← any_ledger_at m g.ledger
  Ok (migrated (file 1 g.ledger_out) ledger)
outcome_of (Gen g) m = Ok (generated g)
outcome_of (Build b) m = do
  list ← list_at m b.list
  Ok (set_built (file 1 b.set) b.clusters list)
outcome_of (Play p) m = do
  ledger ← played_ledger_at m p.back p.ledger
  log ← log_at m p.log
  replayed (file 2 p.ledger_out) p.back log ledger
outcome_of (ApplyList a) m = do
  ledger ← ledger_at m a.ledger
  verdicts ← verdicts_at m a.verdicts
  list ← list_at m a.list
  Ok (applied (file 3 a.report) (file 4 a.ledger_out) (outputs_of_list ledger verdicts list a.close_time))
outcome_of (Record r) m = do
  ledger ← ledger_at m r.ledger
  envelope ← envelope_at m false r.tx
  Ok (entries_stored (file 2 r.out) (recorded_for r ledger envelope))

-- the outcome of the words
abbrev pub outcome_if : Option Request → FileMap → Result Made Status
outcome_if None m = Err Usage
outcome_if (Some asked) m = outcome_of asked m

-- the lines that are due, or the status whose line is due
abbrev pub says_of : Result Made Status → Result (List ℕ) Status
says_of outcome = do
  made ← outcome
  Ok made.lines

-- the status that is due
abbrev pub due : Option Request → FileMap → Status
due asked m = status_of (outcome_if asked m)
