-- The outcomes of the commands, in terms of the spellings (RFC 4506) of their files' bytes alone.
use Rattle.std.specs.Prelude.{◌≡◌, ◌↔◌, ◌≤◌, ℕ, Bool, true, false, List, [], ◌∷◌, Result, Ok, Err, IsOk, Option, Some, None}
use Rattle.std.specs.Prelude.{length}
use Rattle.std.specs.List.{AllByRecursion}
use Rattle.apply_spec.specs.Enforced.{enforced}
use Rattle.apply_spec.specs.Outputs.{outputs, outputs_after}
use Rattle.apply_spec.specs.Runs.{new_header, running_header}
use Rattle.apply_spec.specs.Simulated.{Simulated, simulated}
use Rattle.apply_spec.specs.SimulationFile.{simulation_bytes, simulation_lines}
use Rattle.record_spec.specs.Recorded.{recorded}
use Rattle.command_words.specs.declared.request.ApplyRequest.{ApplyRequest}
use Rattle.change_log.specs.Log.{log_format}
use Rattle.change_log.specs.Play.{played}
use Rattle.change_log.specs.declared.error.ListIndex.{ListIndex}
use Rattle.change_log.specs.declared.log.Log.{Log}
use Rattle.command_words.specs.declared.request.BuildRequest.{BuildRequest}
use Rattle.command_words.specs.declared.request.GenRequest.{GenRequest}
use Rattle.command_words.specs.declared.request.MigrateRequest.{MigrateRequest}
use Rattle.command_words.specs.declared.request.PlayRequest.{PlayRequest}
use Rattle.command_words.specs.declared.request.Request.TheVariants.{Apply, Simulate, Show, Vet, Migrate, Gen, Build, Play}
use Rattle.command_words.specs.declared.request.RecordRequest.{RecordRequest}
use Rattle.command_words.specs.declared.request.Request.TheVariants.{Record}
use Rattle.command_words.specs.Values.{all_steps}
use Rattle.command_words.specs.declared.request.ScheduleOptions.{ScheduleOptions}
use Rattle.command_words.specs.declared.request.ShowKind.{ShowKind}
use Rattle.command_words.specs.declared.request.ShowKind.TheVariants as kinds
use Rattle.command_words.specs.declared.request.ShowRequest.{ShowRequest}
use Rattle.command_words.specs.declared.request.SimulateRequest.{SimulateRequest}
use Rattle.command_words.specs.declared.request.VetRequest.{VetRequest}
use Rattle.edge_io.specs.Contents.{FileMap}
use Rattle.spec_apply.specs.Logged.{logged_set}
use Rattle.ledger_file.specs.FileOf.{IsFileOf}
use Rattle.ledger_spec.specs.LedgerFile.{ledger_bytes}
use Rattle.ledger_spec.specs.LedgerMap.{LedgerMap}
use Rattle.ledger_spec.specs.declared.LedgerWhy.{LedgerWhy}
use Rattle.ledger_spec.specs.declared.LedgerWhy.TheVariants as ledger_why
use Rattle.ledger_types.specs.File.{file_format}
use Rattle.ledger_types.specs.Verdicts.{verdicts_format}
use Rattle.ledger_types.specs.declared.header.Header.{Header}
use Rattle.ledger_types.specs.declared.verdicts.Verdicts.{Verdicts}
use Rattle.module_vet.specs.Verdict.{IsVerdict}
use Rattle.module_spec.specs.declared.flaw.Flaw.{Flaw}
use Rattle.module_vet.specs.declared.Sizes.{Sizes}
use Rattle.schedule_runs.specs.Plans.{first_incomplete, run_stopped, steps_of}
use Rattle.schedule_runs.specs.Schedule.{schedule_format}
use Rattle.schedule_runs.specs.declared.schedule.Schedule.{Schedule}
use Rattle.set_generator.specs.GeneratedLedger.{generated_entries, generated_header}
use Rattle.set_generator.specs.GeneratedSet.{generated_set}
use Rattle.stage_runs.specs.Conflicts.{IsFirstConflict}
use Rattle.stage_runs.specs.Maps.{AgreeOn}
use Rattle.stage_runs.specs.Runs.{HasNoConflict}
use Rattle.stage_runs.specs.Transactions.{declares}
use Rattle.tx_xdr.specs.Set.{set_format}
use Rattle.tx_xdr.specs.Envelope.{envelope_format, envelopes_format, transaction_in}
use Rattle.tx_xdr.specs.Stages.{stages_of}
use Rattle.tx_xdr.specs.declared.envelope.Envelope.{Envelope}
use Rattle.tx_xdr.specs.declared.set.TxSet.{TxSet}
use Rattle.value_types.specs.Formats.{scval_format}
use Rattle.xdr_spec.specs.Format.{Format, IsBytes}
use Rattle.xdr_spec.specs.Refusal.{Spells, Refuses}
use Rattle.xdr_spec.specs.declared.Why.{Why}
use Rattle.command_io.specs.Inputs.{content_of, ledger_at, opened}
use Rattle.command_io.specs.Product.{stored_and_said, Made, file}
use Rattle.command_io.specs.Steps.{◌>>=◌}
use Rattle.command_io.specs.Vetted.{as_vetted}
use Rattle.command_io.specs.declared.status.Status.{Status}
use Rattle.command_io.specs.declared.status.Status.TheVariants as status
use Rattle.soroban_top.specs.EntriesRecorded.{entries_stored, terms_of}
use Rattle.soroban_top.specs.FirstConflict.{stages_in}
use Rattle.soroban_top.specs.Generating.{job, made_line}
use Rattle.soroban_top.specs.Migrated.{migrated}
use Rattle.soroban_top.specs.Replayed.{played_ledger_at, played_line}
use Rattle.soroban_top.specs.Scheduled.{with_steps}
use Rattle.soroban_top.specs.SetBuilt.{set_built}
use Rattle.soroban_top.specs.Outcome.{applied, due, only_said, outcome_of}
use Rattle.soroban_top.specs.LogPlays.{PlaysBetween}
use Rattle.soroban_top.specs.LogStored.{with_log}
use Rattle.soroban_top.specs.declared.scheduled.ScheduledSteps.{ScheduledSteps}

-- ---- apply and simulate: first the ledger, then the verdicts, then a set or an envelope, whose file may be base64 text

-- the ledger's file has these bytes
pub record HasLedgerFile (ledger_name : List ℕ) (m : FileMap) (bytes : List ℕ) : Type 0 where
  pub has_ledger : content_of m ledger_name ≡ Ok bytes
  pub are_bytes : IsBytes bytes

-- the ledger's file is accepted, and the verdicts' file has these bytes
pub record HasLedger (ledger_name verdicts_name : List ℕ) (m : FileMap) (verdicts : List ℕ) : Type 0 where
  pub ledger : Header × LedgerMap
  pub is_ledger : ledger_at m ledger_name ≡ Ok ledger
  pub has_verdicts : content_of m verdicts_name ≡ Ok verdicts
  pub are_bytes : IsBytes verdicts

-- the verdicts' file is accepted, too, and the third file has these bytes
pub record HasInputs (ledger_name verdicts_name name : List ℕ) (base64 : Bool) (m : FileMap) (last : List ℕ) : Type 0 where
  pub bytes : List ℕ
  pub before : HasLedger ledger_name verdicts_name m bytes
  pub verdicts : Verdicts
  pub spells : Spells verdicts_format verdicts bytes
  pub text : List ℕ
  pub has_text : content_of m name ≡ Ok text
  pub opens : opened base64 name text ≡ Ok last
  pub are_bytes : IsBytes last

-- the two files are those of this ledger and of these verdicts
pub record AreFilesOf (ledger_name verdicts_name : List ℕ) (m : FileMap) (header : Header) (entries : LedgerMap)
    (verdicts : Verdicts) : Type 0 where
  pub ledger : List ℕ
  pub has_ledger : content_of m ledger_name ≡ Ok ledger
  pub is_ledger : IsFileOf true ledger header entries
  pub bytes : List ℕ
  pub has_verdicts : content_of m verdicts_name ≡ Ok bytes
  pub spells : Spells verdicts_format verdicts bytes

-- the third file spells this set or envelope
pub record IsSpelledIn {A : Type 0} (F : Format A) (x : A) (name : List ℕ) (base64 : Bool) (m : FileMap) : Type 0 where
  pub text : List ℕ
  pub has_text : content_of m name ≡ Ok text
  pub bytes : List ℕ
  pub opens : opened base64 name text ≡ Ok bytes
  pub spells : Spells F x bytes

-- ---- apply

-- the status that is due for this `apply`
abbrev pub due_of : ApplyRequest → FileMap → Status
due_of a m = due (Some (Apply a)) m

-- the file spells this schedule
pub record IsScheduleIn (schedule : Schedule) (name : List ℕ) (m : FileMap) : Type 0 where
  pub bytes : List ℕ
  pub has_bytes : content_of m name ≡ Ok bytes
  pub spells : Spells schedule_format schedule bytes

-- The set runs by the schedule that the file spells, with this number of steps, or without one if none is given.
abbrev pub IsScheduled : Option ScheduleOptions → FileMap → Option ScheduledSteps → Type 0
IsScheduled None m scheduled = scheduled ≡ None
IsScheduled (Some options) m scheduled =
    (schedule : Schedule) × IsScheduleIn schedule options.file m × (scheduled ≡ Some (with_steps schedule options.steps))

-- Ledger with reason Xdr is due exactly if the bytes are refused, at that offset, whatever else is wrong.
abbrev pub LedgerLaw : Type 0
LedgerLaw = (a : ApplyRequest) (m : FileMap) (bytes : List ℕ) → HasLedgerFile a.ledger m bytes → (at : ℕ)
    → (due_of a m ≡ status.Ledger ledger_why.Xdr at) ↔ ((why : Why) × Refuses file_format bytes at why)

-- Ledger is due, with any reason, exactly if the bytes are not the file of a ledger that another ledger may follow.
abbrev pub NoLedgerLaw : Type 0
NoLedgerLaw = (a : ApplyRequest) (m : FileMap) (bytes : List ℕ) → HasLedgerFile a.ledger m bytes
    → ((why : LedgerWhy) × (at : ℕ) × (due_of a m ≡ status.Ledger why at))
    ↔ (¬ ((header : Header) × (entries : LedgerMap) × IsFileOf true bytes header entries))

-- Verdicts is due exactly if the bytes are refused, at that offset.
abbrev pub VerdictsLaw : Type 0
VerdictsLaw = (a : ApplyRequest) (m : FileMap) (bytes : List ℕ) → HasLedger a.ledger a.verdicts m bytes → (at : ℕ)
    → (due_of a m ≡ status.Verdicts at) ↔ ((why : Why) × Refuses verdicts_format bytes at why)

-- Malformed is due exactly if the bytes spell no set, with the offset and the reason of their refusal.
abbrev pub MalformedLaw : Type 0
MalformedLaw = (a : ApplyRequest) (m : FileMap) (bytes : List ℕ) → HasInputs a.ledger a.verdicts a.set a.base64 m bytes
    → (at : ℕ) (why : Why)
    → (due_of a m ≡ status.Malformed at why) ↔ Refuses set_format bytes at why

-- If they spell a set, Schedule is due exactly if the bytes of the schedule's file are refused, at that offset.
abbrev pub ScheduleLaw : Type 0
ScheduleLaw = (a : ApplyRequest) (options : ScheduleOptions) (m : FileMap) (bytes schedule : List ℕ) (set : TxSet)
    → HasInputs a.ledger a.verdicts a.set a.base64 m bytes → Spells set_format set bytes
    → a.schedule ≡ Some options → content_of m options.file ≡ Ok schedule → IsBytes schedule → (at : ℕ)
    → (due_of a m ≡ status.Schedule at) ↔ ((why : Why) × Refuses schedule_format schedule at why)

-- If the schedule's file is accepted, or none is given, Conflict is due exactly if they spell a set, and this is its first
-- conflict.
abbrev pub ConflictLaw : Type 0
ConflictLaw = (a : ApplyRequest) (m : FileMap) (bytes : List ℕ) (scheduled : Option ScheduledSteps)
    → HasInputs a.ledger a.verdicts a.set a.base64 m bytes
    → IsScheduled a.schedule m scheduled → (stage x y : ℕ) (key : List ℕ)
    → (due_of a m ≡ status.Conflict stage x y key)
    ↔ ((set : TxSet) × Spells set_format set bytes × IsFirstConflict (stages_in set) stage x y key)

-- no stage of the set has a conflict
abbrev pub IsFree : TxSet → Type 0
IsFree set = AllByRecursion HasNoConflict (stages_in set)

-- The set has no conflict. If a schedule is given, each stage has its list, and each list is complete.
abbrev pub CanRun : Option ScheduledSteps → TxSet → Type 0
CanRun None set = IsFree set
CanRun (Some scheduled) set = IsFree set × (first_incomplete (stages_in set) scheduled.schedule.stages ≡ None)

-- The set has no conflict, and this is the least index at which a stage has no list, a list has no stage, or a list is not
-- complete.
abbrev pub IsIncompleteAt : ℕ → ScheduledSteps → TxSet → Type 0
IsIncompleteAt stage scheduled set = IsFree set × (first_incomplete (stages_in set) scheduled.schedule.stages ≡ Some stage)

-- Incomplete is due exactly if they spell a set without a conflict, and this is the least index at which the schedule is not
-- complete.
abbrev pub IncompleteLaw : Type 0
IncompleteLaw = (a : ApplyRequest) (m : FileMap) (bytes : List ℕ) (scheduled : ScheduledSteps)
    → HasInputs a.ledger a.verdicts a.set a.base64 m bytes
    → IsScheduled a.schedule m (Some scheduled) → (stage : ℕ)
    → (due_of a m ≡ status.Incomplete stage) ↔ ((set : TxSet) × Spells set_format set bytes × IsIncompleteAt stage scheduled set)

-- Done is due exactly if they spell a set without a conflict, and the schedule is complete, if one is given.
abbrev pub DoneLaw : Type 0
DoneLaw = (a : ApplyRequest) (m : FileMap) (bytes : List ℕ) (scheduled : Option ScheduledSteps)
    → HasInputs a.ledger a.verdicts a.set a.base64 m bytes
    → IsScheduled a.schedule m scheduled
    → (due_of a m ≡ status.Done) ↔ ((set : TxSet) × Spells set_format set bytes × CanRun scheduled set)

-- Of a set without a conflict, the outputs over the ledger are stored and printed. The change log is stored after them, if it is
-- asked for.
abbrev pub AppliedLaw : Type 0
AppliedLaw = (a : ApplyRequest) (m : FileMap) (header : Header) (entries : LedgerMap) (verdicts : Verdicts) (set : TxSet)
    → AreFilesOf a.ledger a.verdicts m header entries verdicts → IsSpelledIn set_format set a.set a.base64 m → IsFree set
    → a.schedule ≡ None
    → outcome_of (Apply a) m
    ≡ Ok (with_log a.log (log_format.spell (logged_set header verdicts entries set a.close_time))
    (applied (file 3 a.report) (file 4 a.ledger_out) (outputs header verdicts entries set a.close_time)))

-- If a schedule is given, those of its first steps are stored and printed, with the header after the whole set.
abbrev pub StoppedLaw : Type 0
StoppedLaw =
    (a : ApplyRequest) (m : FileMap) (header : Header) (entries : LedgerMap) (verdicts : Verdicts) (set : TxSet)
    (scheduled : ScheduledSteps)
    → AreFilesOf a.ledger a.verdicts m header entries verdicts → IsSpelledIn set_format set a.set a.base64 m
    → IsScheduled a.schedule m (Some scheduled) → CanRun (Some scheduled) set
    → outcome_of (Apply a) m ≡ Ok (applied (file 3 a.report) (file 4 a.ledger_out)
    (outputs_after (new_header header a.close_time)
    (run_stopped header verdicts entries set a.close_time scheduled.schedule.stages scheduled.steps)))

-- If all its steps run, a complete schedule changes nothing that is stored or printed, whatever the other files have.
abbrev pub WholeLaw : Type 0
WholeLaw =
    (a : ApplyRequest) (m : FileMap) (set : TxSet) (scheduled : ScheduledSteps) → IsSpelledIn set_format set a.set a.base64 m
    → IsScheduled a.schedule m (Some scheduled) → CanRun (Some scheduled) set
    → steps_of scheduled.schedule.stages ≤ scheduled.steps
    → outcome_of (Apply a) m ≡ outcome_of (Apply (record a { schedule = None; log = None })) m

-- All its steps run if their number is not given.
abbrev pub AllStepsLaw : Type 0
AllStepsLaw = (options : Option ScheduleOptions) (m : FileMap) (scheduled : ScheduledSteps)
    → IsScheduled options m (Some scheduled) → scheduled.steps ≡ all_steps
    → steps_of scheduled.schedule.stages ≤ scheduled.steps

-- ---- simulate

-- the status that is due for this `simulate`
abbrev pub due_of_simulate : SimulateRequest → FileMap → Status
due_of_simulate s m = due (Some (Simulate s)) m

-- Ledger with reason Xdr is due exactly if the bytes are refused, at that offset, whatever else is wrong.
abbrev pub SimulateLedgerLaw : Type 0
SimulateLedgerLaw = (s : SimulateRequest) (m : FileMap) (bytes : List ℕ) → HasLedgerFile s.ledger m bytes → (at : ℕ)
    → (due_of_simulate s m ≡ status.Ledger ledger_why.Xdr at) ↔ ((why : Why) × Refuses file_format bytes at why)

-- Ledger is due, with any reason, exactly if the bytes are not the file of a ledger that another ledger may follow.
abbrev pub SimulateNoLedgerLaw : Type 0
SimulateNoLedgerLaw = (s : SimulateRequest) (m : FileMap) (bytes : List ℕ) → HasLedgerFile s.ledger m bytes
    → ((why : LedgerWhy) × (at : ℕ) × (due_of_simulate s m ≡ status.Ledger why at))
    ↔ (¬ ((header : Header) × (entries : LedgerMap) × IsFileOf true bytes header entries))

-- Verdicts is due exactly if the bytes are refused, at that offset.
abbrev pub SimulateVerdictsLaw : Type 0
SimulateVerdictsLaw = (s : SimulateRequest) (m : FileMap) (bytes : List ℕ) → HasLedger s.ledger s.verdicts m bytes → (at : ℕ)
    → (due_of_simulate s m ≡ status.Verdicts at) ↔ ((why : Why) × Refuses verdicts_format bytes at why)

-- Malformed is due exactly if the bytes spell no envelope, with the offset and the reason of their refusal.
abbrev pub SimulateMalformedLaw : Type 0
SimulateMalformedLaw = (s : SimulateRequest) (m : FileMap) (bytes : List ℕ) → HasInputs s.ledger s.verdicts s.tx s.base64 m bytes
    → (at : ℕ) (why : Why)
    → (due_of_simulate s m ≡ status.Malformed at why) ↔ Refuses envelope_format bytes at why

-- Done is due exactly if they spell an envelope, whatever the result of its transaction.
abbrev pub SimulateDoneLaw : Type 0
SimulateDoneLaw = (s : SimulateRequest) (m : FileMap) (bytes : List ℕ) → HasInputs s.ledger s.verdicts s.tx s.base64 m bytes
    → (due_of_simulate s m ≡ status.Done) ↔ ((envelope : Envelope) × Spells envelope_format envelope bytes)

-- the file of a simulated envelope is stored, and then its three lines are printed
abbrev pub found : SimulateRequest → Simulated → Made
found s simulation = record {
  stores = job (file 3 s.out) (simulation_bytes simulation) ∷ [];
  lines = simulation_lines simulation;
}

-- These are stored and printed for the envelope over the ledger.
abbrev pub SimulateLaw : Type 0
SimulateLaw =
    (s : SimulateRequest) (m : FileMap) (header : Header) (entries : LedgerMap) (verdicts : Verdicts) (envelope : Envelope)
    → AreFilesOf s.ledger s.verdicts m header entries verdicts → IsSpelledIn envelope_format envelope s.tx s.base64 m
    → outcome_of (Simulate s) m ≡ Ok (found s (simulated (running_header header s.close_time) verdicts entries envelope))

-- What is stored is what is enforced. Take any map that agrees with the ledger on the footprint. The stored result and success
-- preimage are those that the envelope with this footprint has there.
abbrev pub SimulateEnforcedLaw : Type 0
SimulateEnforcedLaw =
    (s : SimulateRequest) (m : FileMap) (header : Header) (entries other : LedgerMap) (verdicts : Verdicts) (envelope : Envelope)
    → AreFilesOf s.ledger s.verdicts m header entries verdicts → IsSpelledIn envelope_format envelope s.tx s.base64 m
    → (let running = running_header header s.close_time in
    let simulation = simulated running verdicts entries envelope in
    AgreeOn (declares simulation.envelope) entries other
    → outcome_of (Simulate s) m
    ≡ Ok (found s (record simulation { effect = enforced running verdicts other simulation.envelope })))

-- ---- show and vet

-- the shown file has these bytes
pub record HasShown (s : ShowRequest) (m : FileMap) (bytes : List ℕ) : Type 0 where
  pub text : List ℕ
  pub has_text : content_of m s.file ≡ Ok text
  pub opens : opened s.base64 s.file text ≡ Ok bytes
  pub are_bytes : IsBytes bytes

-- the status that is due for this `show`
abbrev pub due_of_show : ShowRequest → FileMap → Status
due_of_show s m = due (Some (Show s)) m

-- For a shown file of this kind, Malformed is due exactly if the bytes are refused, with that offset and that reason.
abbrev pub ShownMalformed : ShowKind → {A : Type 0} → Format A → Type 0
ShownMalformed kind F =
    (s : ShowRequest) (m : FileMap) (bytes : List ℕ) → s.kind ≡ kind → HasShown s m bytes → (at : ℕ) (why : Why)
    → (due_of_show s m ≡ status.Malformed at why) ↔ Refuses F bytes at why

-- Done is due exactly if they spell one.
abbrev pub ShownDone : ShowKind → {A : Type 0} → Format A → Type 0
ShownDone kind {A} F = (s : ShowRequest) (m : FileMap) (bytes : List ℕ) → s.kind ≡ kind → HasShown s m bytes
    → (due_of_show s m ≡ status.Done) ↔ ((x : A) × Spells F x bytes)

abbrev pub SetMalformedLaw : Type 0
SetMalformedLaw = ShownMalformed kinds.Set set_format

abbrev pub SetDoneLaw : Type 0
SetDoneLaw = ShownDone kinds.Set set_format

abbrev pub EnvelopeMalformedLaw : Type 0
EnvelopeMalformedLaw = ShownMalformed kinds.Envelope envelope_format

abbrev pub EnvelopeDoneLaw : Type 0
EnvelopeDoneLaw = ShownDone kinds.Envelope envelope_format

-- For a shown ledger, Ledger with reason Xdr is due exactly if the bytes are refused, at that offset; Done is due exactly if they
-- are the file of a ledger.
abbrev pub LedgerShownLaw : Type 0
LedgerShownLaw = (s : ShowRequest) (m : FileMap) (bytes : List ℕ) → s.kind ≡ kinds.Ledger → HasShown s m bytes → (at : ℕ)
    → (due_of_show s m ≡ status.Ledger ledger_why.Xdr at) ↔ ((why : Why) × Refuses file_format bytes at why)

abbrev pub LedgerDoneLaw : Type 0
LedgerDoneLaw = (s : ShowRequest) (m : FileMap) (bytes : List ℕ) → s.kind ≡ kinds.Ledger → HasShown s m bytes
    → (due_of_show s m ≡ status.Done) ↔ ((header : Header) × (entries : LedgerMap) × IsFileOf false bytes header entries)

abbrev pub ValueMalformedLaw : Type 0
ValueMalformedLaw = ShownMalformed kinds.Value scval_format

abbrev pub ValueDoneLaw : Type 0
ValueDoneLaw = ShownDone kinds.Value scval_format

-- `vet` reports the sizes of the module that the bytes encode, or its first flaw.
abbrev pub VetLaw : Type 0
VetLaw = (v : VetRequest) (m : FileMap) (bytes : List ℕ) (verdict : Result Sizes Flaw) → content_of m v.module_file ≡ Ok bytes
    → IsVerdict bytes verdict
    → outcome_of (Vet v) m ≡ (as_vetted verdict >>= λ line. Ok (only_said line))

-- ---- migrate

-- the file of the ledger that is migrated has these bytes
pub record HasMigrated (g : MigrateRequest) (m : FileMap) (bytes : List ℕ) : Type 0 where
  pub has_ledger : content_of m g.ledger ≡ Ok bytes
  pub are_bytes : IsBytes bytes

-- Ledger with reason Xdr is due exactly if the bytes are refused, at that offset.
abbrev pub MigrateRefusedLaw : Type 0
MigrateRefusedLaw = (g : MigrateRequest) (m : FileMap) (bytes : List ℕ) → HasMigrated g m bytes → (at : ℕ)
    → (due (Some (Migrate g)) m ≡ status.Ledger ledger_why.Xdr at) ↔ ((why : Why) × Refuses file_format bytes at why)

-- Done is due exactly if they are the file of a ledger.
abbrev pub MigrateDoneLaw : Type 0
MigrateDoneLaw = (g : MigrateRequest) (m : FileMap) (bytes : List ℕ) → HasMigrated g m bytes
    → (due (Some (Migrate g)) m ≡ status.Done) ↔ ((header : Header) × (entries : LedgerMap) × IsFileOf false bytes header entries)

-- The file of a ledger is stored for the ledger of which the bytes are the file.
abbrev pub MigrateLaw : Type 0
MigrateLaw = (g : MigrateRequest) (m : FileMap) (bytes : List ℕ) (header : Header) (entries : LedgerMap)
    → content_of m g.ledger ≡ Ok bytes → IsFileOf false bytes header entries
    → outcome_of (Migrate g) m ≡ Ok (migrated (file 1 g.ledger_out) (header, entries))

-- ---- gen

-- what is stored and printed: the files of the generated set, of the generated ledger and of no verdicts, and how many
-- transactions and stages the set has
pub record IsGenerated (g : GenRequest) (made : Made) : Type 0 where
  pub set : List ℕ
  pub ledger : List ℕ
  pub verdicts : List ℕ
  pub stores : made.stores ≡ job (file 0 g.set) set ∷ job (file 1 g.ledger) ledger ∷ job (file 2 g.verdicts) verdicts ∷ []
  pub spells_set : Spells set_format (generated_set g.count g.seed) set
  pub is_ledger : IsFileOf true ledger generated_header generated_entries
  pub spells_verdicts : Spells verdicts_format (record { pairs = [] }) verdicts
  pub lines : made.lines ≡ made_line g.count (length (stages_of (generated_set g.count g.seed)))

-- The generated files are stored, whatever files there are.
abbrev pub GenLaw : Type 0
GenLaw = (g : GenRequest) (m : FileMap) → g.count ≤ 100000 → (made : Made) × (outcome_of (Gen g) m ≡ Ok made) × IsGenerated g made

-- ---- build

-- the list's file has these bytes
pub record HasListed (b : BuildRequest) (m : FileMap) (bytes : List ℕ) : Type 0 where
  pub has_list : content_of m b.list ≡ Ok bytes
  pub are_bytes : IsBytes bytes

-- Malformed is due exactly if the bytes are refused, at that offset.
abbrev pub BuildMalformedLaw : Type 0
BuildMalformedLaw = (b : BuildRequest) (m : FileMap) (bytes : List ℕ) → HasListed b m bytes → (at : ℕ) (why : Why)
    → (due (Some (Build b)) m ≡ status.Malformed at why) ↔ Refuses envelopes_format bytes at why

-- Done is due exactly if they spell a list of envelopes.
abbrev pub BuildDoneLaw : Type 0
BuildDoneLaw = (b : BuildRequest) (m : FileMap) (bytes : List ℕ) → HasListed b m bytes
    → (due (Some (Build b)) m ≡ status.Done) ↔ ((list : List Envelope) × Spells envelopes_format list bytes)

-- The file of the set that is built from the list is stored.
abbrev pub BuildLaw : Type 0
BuildLaw = (b : BuildRequest) (m : FileMap) (bytes : List ℕ) (list : List Envelope)
    → content_of m b.list ≡ Ok bytes → Spells envelopes_format list bytes
    → outcome_of (Build b) m ≡ Ok (set_built (file 1 b.set) b.clusters list)

-- ---- play

-- the ledger's file has this ledger, and the log's file has these bytes
pub record HasPlayed (p : PlayRequest) (m : FileMap) (ledger : Header × LedgerMap) (bytes : List ℕ) : Type 0 where
  pub has_ledger : played_ledger_at m p.back p.ledger ≡ Ok ledger
  pub has_log : content_of m p.log ≡ Ok bytes
  pub are_bytes : IsBytes bytes

-- Malformed is due exactly if the bytes are refused, at that offset.
abbrev pub PlayMalformedLaw : Type 0
PlayMalformedLaw = (p : PlayRequest) (m : FileMap) (ledger : Header × LedgerMap) (bytes : List ℕ) → HasPlayed p m ledger bytes
    → (at : ℕ) (why : Why) → (due (Some (Play p)) m ≡ status.Malformed at why) ↔ Refuses log_format bytes at why

-- Unfit is due exactly if they spell a log that does not fit the ledger.
abbrev pub PlayUnfitLaw : Type 0
PlayUnfitLaw = (p : PlayRequest) (m : FileMap) (ledger : Header × LedgerMap) (bytes : List ℕ) → HasPlayed p m ledger bytes
    → (at : Option ListIndex)
    → (due (Some (Play p)) m ≡ status.Unfit at)
    ↔ ((log : Log) × Spells log_format log bytes × (played p.back log ledger.0 ledger.1 ≡ Err at))

-- Done is due exactly if they spell a log that fits it.
abbrev pub PlayDoneLaw : Type 0
PlayDoneLaw = (p : PlayRequest) (m : FileMap) (ledger : Header × LedgerMap) (bytes : List ℕ) → HasPlayed p m ledger bytes
    → (due (Some (Play p)) m ≡ status.Done)
    ↔ ((log : Log) × Spells log_format log bytes × IsOk (played p.back log ledger.0 ledger.1))

-- The ledger that the log leads to is stored, and the number of the log's stages is printed.
abbrev pub PlayLaw : Type 0
PlayLaw = (p : PlayRequest) (m : FileMap) (ledger after : Header × LedgerMap) (bytes : List ℕ) (log : Log)
    → HasPlayed p m ledger bytes → Spells log_format log bytes → played p.back log ledger.0 ledger.1 ≡ Ok after
    → outcome_of (Play p) m
    ≡ Ok (stored_and_said (file 2 p.ledger_out) (ledger_bytes after.0 after.1) (played_line (length log.stages)))

-- the log's file spells this log
abbrev pub IsLogIn : Log → List ℕ → FileMap → Type 0
IsLogIn log name m = content_of m name ≡ Ok (log_format.spell log)

-- Take a log that plays between two ledgers, as the log of a set does. Played on the file of the old ledger, it gives the new
-- one.
abbrev pub PlayThereLaw : Type 0
PlayThereLaw =
    (p : PlayRequest) (m : FileMap) (log : Log) (header : Header) (entries : LedgerMap) (new : Header × LedgerMap)
    (bytes : List ℕ) → PlaysBetween log (header, entries) new → p.back ≡ false → IsLogIn log p.log m
    → content_of m p.ledger ≡ Ok bytes → IsFileOf true bytes header entries
    → outcome_of (Play p) m
    ≡ Ok (stored_and_said (file 2 p.ledger_out) (ledger_bytes new.0 new.1) (played_line (length log.stages)))

-- Played backwards on the file that `apply` stores of the new ledger, it gives the old one. An old ledger of version 1 comes back
-- in the newest version.
abbrev pub PlayBackLaw : Type 0
PlayBackLaw =
    (p : PlayRequest) (m : FileMap) (log : Log) (header : Header) (entries : LedgerMap) (new : Header × LedgerMap)
    (bytes : List ℕ) → PlaysBetween log (header, entries) new → p.back ≡ true → IsLogIn log p.log m
    → IsFileOf true bytes header entries → content_of m p.ledger ≡ Ok (ledger_bytes new.0 new.1)
    → outcome_of (Play p) m
    ≡ Ok (stored_and_said (file 2 p.ledger_out) (ledger_bytes header entries) (played_line (length log.stages)))

-- ---- record

-- the ledger's file has this ledger, and the transaction's file has these bytes
pub record HasRecorded (r : RecordRequest) (m : FileMap) (ledger : Header × LedgerMap) (bytes : List ℕ) : Type 0 where
  pub has_ledger : ledger_at m r.ledger ≡ Ok ledger
  pub has_tx : content_of m r.tx ≡ Ok bytes
  pub are_bytes : IsBytes bytes

-- Ledger with reason Xdr is due exactly if the bytes are refused, at that offset, whatever else is wrong.
abbrev pub RecordLedgerLaw : Type 0
RecordLedgerLaw = (r : RecordRequest) (m : FileMap) (bytes : List ℕ) → HasLedgerFile r.ledger m bytes → (at : ℕ)
    → (due (Some (Record r)) m ≡ status.Ledger ledger_why.Xdr at) ↔ ((why : Why) × Refuses file_format bytes at why)

-- Ledger is due, with any reason, exactly if the bytes are not the file of a ledger that another ledger may follow.
abbrev pub RecordNoLedgerLaw : Type 0
RecordNoLedgerLaw = (r : RecordRequest) (m : FileMap) (bytes : List ℕ) → HasLedgerFile r.ledger m bytes
    → ((why : LedgerWhy) × (at : ℕ) × (due (Some (Record r)) m ≡ status.Ledger why at))
    ↔ (¬ ((header : Header) × (entries : LedgerMap) × IsFileOf true bytes header entries))

-- Malformed is due exactly if the bytes are refused, at that offset.
abbrev pub RecordMalformedLaw : Type 0
RecordMalformedLaw = (r : RecordRequest) (m : FileMap) (ledger : Header × LedgerMap) (bytes : List ℕ)
    → HasRecorded r m ledger bytes → (at : ℕ) (why : Why)
    → (due (Some (Record r)) m ≡ status.Malformed at why) ↔ Refuses envelope_format bytes at why

-- Done is due exactly if they spell an envelope, whatever its transaction does.
abbrev pub RecordDoneLaw : Type 0
RecordDoneLaw = (r : RecordRequest) (m : FileMap) (ledger : Header × LedgerMap) (bytes : List ℕ) → HasRecorded r m ledger bytes
    → (due (Some (Record r)) m ≡ status.Done) ↔ ((envelope : Envelope) × Spells envelope_format envelope bytes)

-- The entries that are recorded of its transaction are stored, and their number, and whether a demand was caught, are printed.
abbrev pub RecordLaw : Type 0
RecordLaw = (r : RecordRequest) (m : FileMap) (ledger : Header × LedgerMap) (bytes : List ℕ) (envelope : Envelope)
    → HasRecorded r m ledger bytes → Spells envelope_format envelope bytes
    → outcome_of (Record r) m
    ≡ Ok (entries_stored (file 2 r.out)
    (recorded (running_header ledger.0 r.close_time) (terms_of r) ledger.1 (transaction_in envelope)))
