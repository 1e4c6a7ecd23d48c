-- The status that is due where the bytes of the ledger's file are no ledger's.
use Rattle.std.proofs.Common.{◌≡◌, ◌↔◌, ℕ, Bool, true, false, List, Option, Some, None, Result, Ok, Err, refl, sym, ap, ap₂, ◌∙◌}
use Rattle.std.specs.FinMap.{get}
use Rattle.apply_spec.specs.Outputs.{Outputs}
use Rattle.apply_spec.specs.Runs.{running_header}
use Rattle.apply_spec.specs.Simulated.{simulated as simulated_in}
use Rattle.apply_spec.proofs.Lemmas.{step_framed}
use Rattle.command_words.specs.declared.request.ApplyRequest.{ApplyRequest}
use Rattle.command_words.specs.declared.request.ScheduleOptions.{ScheduleOptions}
use Rattle.edge_io.specs.Contents.{FileMap}
use Rattle.ledger_file.specs.FileOf.{IsFileOf}
use Rattle.ledger_file.proofs.Lemmas.{file_is_read, file_read, xdr_refused}
use Rattle.ledger_spec.specs.LedgerFile.{ledger_of, refusal}
use Rattle.ledger_spec.specs.LedgerMap.{LedgerMap}
use Rattle.ledger_spec.specs.declared.LedgerRefusal.{LedgerRefusal}
use Rattle.ledger_spec.specs.declared.LedgerWhy.{LedgerWhy}
use Rattle.ledger_spec.specs.declared.LedgerWhy.TheVariants as ledger_why
use Rattle.ledger_types.specs.File.{file_format}
use Rattle.ledger_types.specs.Verdicts.{verdicts_format, verdicts_lawful}
use Rattle.ledger_types.specs.declared.header.Header.{Header}
use Rattle.ledger_types.specs.declared.verdicts.Verdicts.{Verdicts}
use Rattle.show_lines.specs.LedgerLines.{ledger_lines}
use Rattle.stage_runs.specs.Transactions.{Effect}
use Rattle.tx_xdr.specs.Envelope.{envelope_format, envelope_lawful}
use Rattle.tx_xdr.specs.Set.{set_format, set_lawful}
use Rattle.tx_xdr.specs.declared.set.TxSet.{TxSet}
use Rattle.xdr_spec.specs.Format.{IsBytes}
use Rattle.xdr_spec.specs.Refusal.{Refuses}
use Rattle.xdr_spec.specs.declared.Why.{Why}
use Rattle.xdr_spec.proofs.Lemmas.{spells_decoded}
use Rattle.command_io.specs.Inputs.{as_ledger, envelope_in, ledger_at, ledger_in, set_at, set_in, verdicts_at, verdicts_in, any_ledger_in}
use Rattle.command_io.specs.Product.{Made, file}
use Rattle.command_io.specs.Steps.{◌>>=◌, status_of}
use Rattle.command_io.specs.declared.status.Status.{Status}
use Rattle.command_io.specs.declared.status.Status.TheVariants as status
use Rattle.soroban_top.specs.EntriesRecorded.{entries_stored, recorded_for}
use Rattle.soroban_top.specs.FirstConflict.{free_of_conflict, stages_in}
use Rattle.soroban_top.specs.Laws.{RecordLedgerLaw, RecordNoLedgerLaw, AppliedLaw, CanRun, found, IsFree, IsScheduled, IsSpelledIn, LedgerDoneLaw, LedgerLaw, LedgerShownLaw, MigrateDoneLaw, MigrateLaw, MigrateRefusedLaw, NoLedgerLaw, SimulateEnforcedLaw, SimulateLaw, SimulateLedgerLaw, SimulateNoLedgerLaw, StoppedLaw, WholeLaw}
use Rattle.soroban_top.specs.LogStored.{log_bytes}
use Rattle.soroban_top.specs.Migrated.{migrated}
use Rattle.soroban_top.specs.Scheduled.{complete_for, may_run, outputs_of, outputs_stopped, scheduled_at}
use Rattle.soroban_top.specs.Outcome.{applied, applied_by, only_said, simulated, simulation_of}
use Rattle.soroban_top.specs.declared.scheduled.ScheduledSteps.{ScheduledSteps}
use Rattle.soroban_top.proofs.FirstConflicts.{no_conflict_is}
use Rattle.soroban_top.proofs.Later.{envelope_file, never_ledger, set_file, verdicts_file}
use Rattle.soroban_top.proofs.BySchedule.{same_after, scheduled_found, whole_outputs}

is_refusal : {B : Type 0} (r : Result (Header × LedgerMap) LedgerRefusal) (rest : Header × LedgerMap → Result B Status) (reason : LedgerWhy) (at : ℕ) → ((l : Header × LedgerMap) → status_of (rest l) ≡ status.Ledger reason at → ⊥)
    → status_of (as_ledger r >>= rest) ≡ status.Ledger reason at → r ≡ Err (refusal reason at)
is_refusal (Ok l) rest reason at none h = absurd (none l h)
is_refusal (Err e) rest reason at none h =
    let reasons : e.why ≡ reason = cc in
    let places : e.at ≡ at = cc in
    let same : e ≡ refusal reason at = ap₂ refusal reasons places in
    ap Err same

pub ledger_due : {B : Type 0} (follows : Bool) (bytes : List ℕ) (rest : Header × LedgerMap → Result B Status) (at : ℕ) → IsBytes bytes → ((l : Header × LedgerMap) → status_of (rest l) ≡ status.Ledger ledger_why.Xdr at → ⊥)
    → (status_of (as_ledger (ledger_of follows bytes) >>= rest) ≡ status.Ledger ledger_why.Xdr at) ↔ ((why : Why) × Refuses file_format bytes at why)
ledger_due follows bytes rest at fit none = (
  λ h. (xdr_refused follows bytes at fit).0 (is_refusal (ledger_of follows bytes) rest ledger_why.Xdr at none h),
  λ refuses. rw ((xdr_refused follows bytes at fit).1 refuses) refl,
)

pub ledger_law : LedgerLaw
unfolding ledger_in
ledger_law a m bytes given at =
    let later = never_ledger ledger_why.Xdr at in
    rw given.has_ledger (ledger_due true bytes _ at given.are_bytes (λ l. verdicts_file _ later (λ place h. cc) (get m a.verdicts) a.verdicts _
    (λ v. set_file _ later m a.base64 a.set a.schedule (applied_by a l v))))

pub simulate_ledger : SimulateLedgerLaw
unfolding ledger_in
simulate_ledger s m bytes given at =
    let later = never_ledger ledger_why.Xdr at in
    rw given.has_ledger (ledger_due true bytes _ at given.are_bytes (λ l. verdicts_file _ later (λ place h. cc) (get m s.verdicts) s.verdicts _
    (λ v. envelope_file _ later (get m s.tx) s.base64 s.tx (λ e. simulated (file 3 s.out) (simulation_of l v e s.close_time)))))

pub record_ledger : RecordLedgerLaw
unfolding ledger_in
record_ledger r m bytes given at =
    rw given.has_ledger (ledger_due true bytes _ at given.are_bytes
    (λ l. envelope_file _ (never_ledger ledger_why.Xdr at) (get m r.tx) false r.tx (λ e. entries_stored (file 2 r.out) (recorded_for r l e))))

is_ledger_status : {B : Type 0} (r : Result (Header × LedgerMap) LedgerRefusal) (rest : Header × LedgerMap → Result B Status) → ((l : Header × LedgerMap) → r ≡ Ok l → ⊥) → (why : LedgerWhy) × (at : ℕ) × (status_of (as_ledger r >>= rest) ≡ status.Ledger why at)
is_ledger_status (Ok l) rest none = absurd (none l refl)
is_ledger_status (Err e) rest none = (e.why, e.at, refl)

ledger_refused : {B : Type 0} (r : Result (Header × LedgerMap) LedgerRefusal) (rest : Header × LedgerMap → Result B Status) (l : Header × LedgerMap) (why : LedgerWhy) (at : ℕ) → ((l : Header × LedgerMap) → status_of (rest l) ≡ status.Ledger why at → ⊥)
    → r ≡ Ok l → status_of (as_ledger r >>= rest) ≡ status.Ledger why at → ⊥
ledger_refused (Ok x) rest l why at none is h = none x h
ledger_refused (Err e) rest l why at none is h = cc

pub no_ledger : {B : Type 0} (bytes : List ℕ) (rest : Header × LedgerMap → Result B Status) → IsBytes bytes → ((why : LedgerWhy) (at : ℕ) (l : Header × LedgerMap) → status_of (rest l) ≡ status.Ledger why at → ⊥)
    → ((why : LedgerWhy) × (at : ℕ) × (status_of (as_ledger (ledger_of true bytes) >>= rest) ≡ status.Ledger why at)) ↔ (((header : Header) × (entries : LedgerMap) × IsFileOf true bytes header entries) → ⊥)
no_ledger bytes rest fit none = (
  λ h is. ledger_refused (ledger_of true bytes) rest (is.0, is.1) h.0 h.1 (none h.0 h.1) (file_is_read true bytes is.0 is.1 is.2) h.2,
  λ not. is_ledger_status (ledger_of true bytes) rest (λ l e. not (l.0, l.1, file_read true bytes l.0 l.1 fit e)),
)

pub no_ledger_law : NoLedgerLaw
unfolding ledger_in
no_ledger_law a m bytes given =
    rw given.has_ledger (no_ledger bytes _ given.are_bytes (λ reason at l. verdicts_file _ (never_ledger reason at) (λ place h. cc) (get m a.verdicts) a.verdicts _
    (λ v. set_file _ (never_ledger reason at) m a.base64 a.set a.schedule (applied_by a l v))))

pub simulate_no_ledger : SimulateNoLedgerLaw
unfolding ledger_in
simulate_no_ledger s m bytes given =
    rw given.has_ledger (no_ledger bytes _ given.are_bytes (λ reason at l. verdicts_file _ (never_ledger reason at) (λ place h. cc) (get m s.verdicts) s.verdicts _
    (λ v. envelope_file _ (never_ledger reason at) (get m s.tx) s.base64 s.tx (λ e. simulated (file 3 s.out) (simulation_of l v e s.close_time)))))

pub record_no_ledger : RecordNoLedgerLaw
unfolding ledger_in
record_no_ledger r m bytes given =
    rw given.has_ledger (no_ledger bytes _ given.are_bytes
    (λ reason at l. envelope_file _ (never_ledger reason at) (get m r.tx) false r.tx (λ e. entries_stored (file 2 r.out) (recorded_for r l e))))

pub applied_law : AppliedLaw
unfolding ledger_in verdicts_in set_in free_of_conflict outputs_of log_bytes
applied_law a m header entries verdicts set given third free plain =
    let ledger = file_is_read true given.ledger header entries given.is_ledger in
    let read = spells_decoded verdicts_format verdicts_lawful verdicts given.bytes given.spells in
    let spelled = spells_decoded set_format set_lawful set third.bytes third.spells in
    let none = (no_conflict_is (stages_in set)).1 free in
    rw (given.has_ledger, ledger, given.has_verdicts, read, third.has_text, third.opens, spelled, plain, none) refl

-- what follows the ledger and the verdicts in `apply`, with this schedule or without one
abbrev run_of : ApplyRequest → FileMap → Option ScheduleOptions → Header × LedgerMap → Verdicts → Result Made Status
run_of a m options ledger verdicts = do
  set ← set_at m a.base64 a.set
  scheduled ← scheduled_at m options
  _ ← may_run scheduled set
  Ok (applied_by a ledger verdicts scheduled set)

run_by_schedule : (a : ApplyRequest) (m : FileMap) (options : Option ScheduleOptions) (set : TxSet) (scheduled : ScheduledSteps) (ledger : Header × LedgerMap) (verdicts : Verdicts) → IsSpelledIn set_format set a.set a.base64 m
    → IsScheduled options m (Some scheduled) → CanRun (Some scheduled) set
    → run_of a m options ledger verdicts ≡ Ok (applied (file 3 a.report) (file 4 a.ledger_out) (outputs_stopped ledger verdicts set a.close_time scheduled))
unfolding set_in free_of_conflict complete_for
run_by_schedule a m options set scheduled ledger verdicts third is can =
    let spelled = spells_decoded set_format set_lawful set third.bytes third.spells in
    let none = (no_conflict_is (stages_in set)).1 can.0 in
    rw (third.has_text, third.opens, spelled, scheduled_found options m (Some scheduled) is, none, can.1) refl

-- the same `apply` without a schedule, and without a log
abbrev alone : ApplyRequest → ApplyRequest
alone a = record a { schedule = None; log = None }

run_by_itself : (a : ApplyRequest) (m : FileMap) (set : TxSet) (ledger : Header × LedgerMap) (verdicts : Verdicts) → IsSpelledIn set_format set a.set a.base64 m → IsFree set
    → run_of (alone a) m None ledger verdicts ≡ Ok (applied (file 3 a.report) (file 4 a.ledger_out) (outputs_of ledger verdicts set a.close_time))
unfolding set_in free_of_conflict
run_by_itself a m set ledger verdicts third free =
    let spelled = spells_decoded set_format set_lawful set third.bytes third.spells in
    let none = (no_conflict_is (stages_in set)).1 free in
    rw (third.has_text, third.opens, spelled, none) refl

pub stopped_law : StoppedLaw
unfolding ledger_in verdicts_in outputs_stopped
stopped_law a m header entries verdicts set scheduled given third is can =
    let ledger = file_is_read true given.ledger header entries given.is_ledger in
    let read = spells_decoded verdicts_format verdicts_lawful verdicts given.bytes given.spells in
    rw (given.has_ledger, ledger, given.has_verdicts, read) (run_by_schedule a m a.schedule set scheduled (header, entries) verdicts third is can)

pub whole_law : WholeLaw
whole_law a m set scheduled third is can all =
    same_after (ledger_at m a.ledger) (λ l. verdicts_at m a.verdicts >>= run_of a m a.schedule l) (λ l. verdicts_at m a.verdicts >>= run_of (alone a) m None l)
    (λ l. same_after (verdicts_at m a.verdicts) (run_of a m a.schedule l) (run_of (alone a) m None l)
    (λ v. run_by_schedule a m a.schedule set scheduled l v third is can
    ∙ ap (λ (o : Outputs). Ok (applied (file 3 a.report) (file 4 a.ledger_out) o)) (whole_outputs scheduled l v set a.close_time can all)
    ∙ sym (run_by_itself a m set l v third can.0)))

pub simulate_stores : SimulateLaw
unfolding ledger_in verdicts_in envelope_in simulation_of
simulate_stores s m header entries verdicts envelope given third =
    let ledger = file_is_read true given.ledger header entries given.is_ledger in
    let read = spells_decoded verdicts_format verdicts_lawful verdicts given.bytes given.spells in
    let spelled = spells_decoded envelope_format envelope_lawful envelope third.bytes third.spells in
    rw (given.has_ledger, ledger, given.has_verdicts, read, third.has_text, third.opens, spelled) refl

pub simulate_enforced : SimulateEnforcedLaw
simulate_enforced s m header entries other verdicts envelope given third agree =
    let running = running_header header s.close_time in
    let simulation = simulated_in running verdicts entries envelope in
    let same = (step_framed running verdicts).framed entries other simulation.envelope agree in
    simulate_stores s m header entries verdicts envelope given third ∙ ap (λ (e : Effect). Ok (found s (record simulation { effect = e }))) same

-- ---- show

two_steps : {A B C : Type 0} (r : Result A LedgerRefusal) (f : A → B) (made : B → C) → status_of (as_ledger r >>= (λ x. Ok (f x)) >>= (λ y. Ok (made y))) ≡ status_of (as_ledger r >>= (λ x. Ok (made (f x))))
two_steps (Ok x) f made = refl
two_steps (Err e) f made = refl

pub ledger_shown : LedgerShownLaw
unfolding any_ledger_in
ledger_shown s m bytes kind given at =
    rw (given.has_text, given.opens, kind, two_steps (ledger_of false bytes) (λ l. ledger_lines l.0 l.1) only_said) (ledger_due false bytes (λ l. Ok (only_said (ledger_lines l.0 l.1))) at given.are_bytes (λ l h. cc))

done_is : {A B : Type 0} (r : Result A LedgerRefusal) (f : A → B) → status_of (as_ledger r >>= (λ x. Ok (f x))) ≡ status.Done → (x : A) × (r ≡ Ok x)
done_is (Ok x) f h = (x, refl)
done_is (Err e) f h = absurd cc

shown_done : {B : Type 0} (bytes : List ℕ) (f : Header × LedgerMap → B) → IsBytes bytes → (status_of (as_ledger (ledger_of false bytes) >>= (λ l. Ok (f l))) ≡ status.Done) ↔ ((header : Header) × (entries : LedgerMap) × IsFileOf false bytes header entries)
shown_done bytes f fit = (
  λ h. let l = done_is (ledger_of false bytes) f h in (l.0.0, l.0.1, file_read false bytes l.0.0 l.0.1 fit l.1),
  λ is. rw (file_is_read false bytes is.0 is.1 is.2) refl,
)

pub ledger_done : LedgerDoneLaw
unfolding any_ledger_in
ledger_done s m bytes kind given =
    rw (given.has_text, given.opens, kind, two_steps (ledger_of false bytes) (λ l. ledger_lines l.0 l.1) only_said) (shown_done bytes (λ l. only_said (ledger_lines l.0 l.1)) given.are_bytes)

-- ---- migrate

pub migrate_refused : MigrateRefusedLaw
unfolding any_ledger_in
migrate_refused g m bytes given at = rw given.has_ledger (ledger_due false bytes (λ l. Ok (migrated (file 1 g.ledger_out) l)) at given.are_bytes (λ l h. cc))

pub migrate_done : MigrateDoneLaw
unfolding any_ledger_in
migrate_done g m bytes given = rw given.has_ledger (shown_done bytes (λ l. migrated (file 1 g.ledger_out) l) given.are_bytes)

pub migrate_stores : MigrateLaw
unfolding any_ledger_in
migrate_stores g m bytes header entries has is = rw (has, file_is_read false bytes header entries is) refl
