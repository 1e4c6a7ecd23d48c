-- The status that is due, of what the files spell.
use Rattle.std.proofs.Common.{◌≡◌, ◌↔◌, ℕ, List, Option, Some, None, Result, Ok, Err, refl, sym, ap}
use Rattle.std.specs.FinMap.{get}
use Rattle.command_words.specs.declared.request.ApplyRequest.{ApplyRequest}
use Rattle.command_words.specs.declared.request.ScheduleOptions.{ScheduleOptions}
use Rattle.edge_io.specs.Contents.{FileMap}
use Rattle.ledger_spec.specs.LedgerMap.{LedgerMap}
use Rattle.ledger_types.specs.declared.header.Header.{Header}
use Rattle.ledger_types.specs.Verdicts.{verdicts_format, verdicts_lawful}
use Rattle.ledger_types.specs.declared.verdicts.Verdicts.{Verdicts}
use Rattle.schedule_runs.specs.Plans.{first_incomplete}
use Rattle.schedule_runs.specs.Schedule.{schedule_format, schedule_lawful}
use Rattle.schedule_runs.specs.declared.schedule.Schedule.{Schedule}
use Rattle.stage_runs.specs.Conflicts.{IsFirstConflict}
use Rattle.tx_xdr.specs.Envelope.{envelope_format, envelope_lawful}
use Rattle.tx_xdr.specs.Set.{set_format, set_lawful}
use Rattle.tx_xdr.specs.declared.envelope.Envelope.{Envelope}
use Rattle.tx_xdr.specs.declared.set.TxSet.{TxSet}
use Rattle.xdr_spec.specs.Decoded.{decoded}
use Rattle.xdr_spec.specs.Format.{IsBytes}
use Rattle.xdr_spec.specs.Refusal.{Refuses}
use Rattle.xdr_spec.specs.declared.Why.{Why}
use Rattle.xdr_spec.specs.declared.XdrErr.{XdrErr}
use Rattle.xdr_spec.proofs.Lemmas.{decoded_refuses, spells_decoded}
use Rattle.command_io.specs.Inputs.{as_verdicts, envelope_in, set_in, verdicts_in}
use Rattle.command_io.specs.Product.{Made, file}
use Rattle.command_io.specs.Steps.{◌>>=◌, status_of}
use Rattle.command_io.specs.declared.status.Status.{Status}
use Rattle.command_io.specs.declared.status.Status.TheVariants as status
use Rattle.command_io.proofs.Lemmas.{refuses_decoded}
use Rattle.soroban_top.specs.FirstConflict.{FoundConflict, first_conflict, free_of_conflict, stages_in, unless_found}
use Rattle.soroban_top.specs.Laws.{CanRun, ConflictLaw, DoneLaw, IncompleteLaw, IsIncompleteAt, MalformedLaw, ScheduleLaw, SimulateDoneLaw, SimulateMalformedLaw, SimulateVerdictsLaw, VerdictsLaw}
use Rattle.soroban_top.specs.Scheduled.{as_schedule, complete_for, with_steps, schedule_in, unless_incomplete}
use Rattle.soroban_top.specs.Outcome.{applied_by, simulated, simulation_of}
use Rattle.soroban_top.specs.declared.scheduled.ScheduledSteps.{ScheduledSteps}
use Rattle.soroban_top.proofs.FirstConflicts.{first_conflict_is, no_conflict_is}
use Rattle.soroban_top.proofs.Later.{envelope_file, never_verdicts, of_scheduled, of_run, scheduled_or_not, run_or_not, set_file}
use Rattle.soroban_top.proofs.BySchedule.{scheduled_found}
use Rattle.soroban_top.proofs.Statuses.{done_due, malformed_before, malformed_due, status_after}

-- ---- what comes after a set was read

none_free : {B : Type 0} (o : Option FoundConflict) (x : B) → status_of (unless_found o >>= λ _. Ok x) ≡ status.Done → o ≡ None
none_free None x h = refl
none_free (Some f) x h = absurd cc

conflict_is : {B : Type 0} (o : Option FoundConflict) (x : B) (stage a b : ℕ) (key : List ℕ) → status_of (unless_found o >>= λ _. Ok x) ≡ status.Conflict stage a b key → o ≡ Some (record { stage = stage; a = a; b = b; key = key })
conflict_is None x stage a b key h = absurd cc
conflict_is (Some f) x stage a b key h =
    let one : f.stage ≡ stage = cc in
    let two : f.a ≡ a = cc in
    let three : f.b ≡ b = cc in
    let four : f.key ≡ key = cc in
    rw (sym one, sym two, sym three, sym four) refl

-- the same, if a schedule is given
both_none : {B : Type 0} (f : Option FoundConflict) (o : Option ℕ) (x : B) → status_of (unless_found f >>= (λ _. unless_incomplete o) >>= (λ _. Ok x)) ≡ status.Done → (f ≡ None) × (o ≡ None)
both_none None None x h = (refl, refl)
both_none None (Some stage) x h = absurd cc
both_none (Some f) o x h = absurd cc

no_conflict_then : {B : Type 0} (o : Option ℕ) (x : B) (stage a b : ℕ) (key : List ℕ) → status_of (unless_incomplete o >>= λ _. Ok x) ≡ status.Conflict stage a b key → ⊥
no_conflict_then None x stage a b key h = cc
no_conflict_then (Some index) x stage a b key h = cc

conflict_before : {B : Type 0} (f : Option FoundConflict) (o : Option ℕ) (x : B) (stage a b : ℕ) (key : List ℕ) → status_of (unless_found f >>= (λ _. unless_incomplete o) >>= (λ _. Ok x)) ≡ status.Conflict stage a b key
    → f ≡ Some (record { stage = stage; a = a; b = b; key = key })
conflict_before None o x stage a b key h = absurd (no_conflict_then o x stage a b key h)
conflict_before (Some f) o x stage a b key h = conflict_is (Some f) x stage a b key h

incomplete_is : {B : Type 0} (f : Option FoundConflict) (o : Option ℕ) (x : B) (stage : ℕ) → status_of (unless_found f >>= (λ _. unless_incomplete o) >>= (λ _. Ok x)) ≡ status.Incomplete stage → (f ≡ None) × (o ≡ Some stage)
incomplete_is None None x stage h = absurd cc
incomplete_is None (Some index) x stage h = let same : index ≡ stage = cc in (refl, ap Some same)
incomplete_is (Some f) o x stage h = absurd cc

done_after : {B : Type 0} (f : Option ScheduledSteps → TxSet → B) (scheduled : Option ScheduledSteps) (set : TxSet) → (status_of (run_or_not f set scheduled) ≡ status.Done) ↔ CanRun scheduled set
unfolding free_of_conflict complete_for
done_after f None set = (
  λ h. (no_conflict_is (stages_in set)).0 (none_free (first_conflict (stages_in set)) (f None set) h),
  λ free. rw ((no_conflict_is (stages_in set)).1 free) refl,
)
done_after f (Some scheduled) set = (
  λ h. let both = both_none (first_conflict (stages_in set)) (first_incomplete (stages_in set) scheduled.schedule.stages) (f (Some scheduled) set) h in
      ((no_conflict_is (stages_in set)).0 both.0, both.1),
  λ can. rw ((no_conflict_is (stages_in set)).1 can.0, can.1) refl,
)

conflict_after : {B : Type 0} (f : Option ScheduledSteps → TxSet → B) (scheduled : Option ScheduledSteps) (stage a b : ℕ) (key : List ℕ) (set : TxSet) → (status_of (run_or_not f set scheduled) ≡ status.Conflict stage a b key) ↔ IsFirstConflict (stages_in set) stage a b key
unfolding free_of_conflict complete_for
conflict_after f None stage a b key set = (
  λ h. (first_conflict_is (stages_in set) (record { stage = stage; a = a; b = b; key = key })).0 (conflict_is (first_conflict (stages_in set)) (f None set) stage a b key h),
  λ first. rw ((first_conflict_is (stages_in set) (record { stage = stage; a = a; b = b; key = key })).1 first) refl,
)
conflict_after f (Some scheduled) stage a b key set = (
  λ h. (first_conflict_is (stages_in set) (record { stage = stage; a = a; b = b; key = key })).0
      (conflict_before (first_conflict (stages_in set)) (first_incomplete (stages_in set) scheduled.schedule.stages) (f (Some scheduled) set) stage a b key h),
  λ first. rw ((first_conflict_is (stages_in set) (record { stage = stage; a = a; b = b; key = key })).1 first) refl,
)

incomplete_after : {B : Type 0} (f : Option ScheduledSteps → TxSet → B) (scheduled : ScheduledSteps) (stage : ℕ) (set : TxSet) → (status_of (run_or_not f set (Some scheduled)) ≡ status.Incomplete stage) ↔ IsIncompleteAt stage scheduled set
unfolding free_of_conflict complete_for
incomplete_after f scheduled stage set = (
  λ h. let both = incomplete_is (first_conflict (stages_in set)) (first_incomplete (stages_in set) scheduled.schedule.stages) (f (Some scheduled) set) stage h in
      ((no_conflict_is (stages_in set)).0 both.0, both.1),
  λ is. rw ((no_conflict_is (stages_in set)).1 is.0, is.1) refl,
)

not_malformed : {B : Type 0} (m : FileMap) (options : Option ScheduleOptions) (f : Option ScheduledSteps → TxSet → B) (at : ℕ) (why : Why) (set : TxSet) → status_of (scheduled_or_not m options f set) ≡ status.Malformed at why → ⊥
not_malformed m options f at why set = of_scheduled (λ s. s ≡ status.Malformed at why → ⊥) (record {
  fault = λ name h. cc;
  long = λ name h. cc;
  schedule = λ place h. cc;
  conflict = λ stage x y key h. cc;
  incomplete = λ stage h. cc;
  done = λ h. cc;
}) m options f set

-- ---- the laws

-- what is stored and printed for a set in an order
made_for : ApplyRequest → Header × LedgerMap → Verdicts → Option ScheduledSteps → TxSet → Made
made_for a ledger verdicts scheduled set = applied_by a ledger verdicts scheduled set

pub malformed_law : MalformedLaw
unfolding verdicts_in set_in made_for
malformed_law a m bytes inputs at why =
    let given = inputs.before in
    let verdicts = spells_decoded verdicts_format verdicts_lawful inputs.verdicts inputs.bytes inputs.spells in
    let made = made_for a given.ledger inputs.verdicts in
    rw (given.is_ledger, given.has_verdicts, verdicts, inputs.has_text, inputs.opens) (malformed_before set_format set_lawful bytes (scheduled_or_not m a.schedule made) at why inputs.are_bytes (not_malformed m a.schedule made at why))

pub done_law : DoneLaw
unfolding verdicts_in set_in made_for
done_law a m bytes scheduled inputs is =
    let given = inputs.before in
    let verdicts = spells_decoded verdicts_format verdicts_lawful inputs.verdicts inputs.bytes inputs.spells in
    let made = made_for a given.ledger inputs.verdicts in
    rw (given.is_ledger, given.has_verdicts, verdicts, inputs.has_text, inputs.opens, scheduled_found a.schedule m scheduled is)
    (status_after set_format set_lawful bytes (λ set. run_or_not made set scheduled) (CanRun scheduled) status.Done inputs.are_bytes (λ e h. cc) (done_after made scheduled))

pub conflict_law : ConflictLaw
unfolding verdicts_in set_in made_for
conflict_law a m bytes scheduled inputs is stage x y key =
    let given = inputs.before in
    let verdicts = spells_decoded verdicts_format verdicts_lawful inputs.verdicts inputs.bytes inputs.spells in
    let made = made_for a given.ledger inputs.verdicts in
    rw (given.is_ledger, given.has_verdicts, verdicts, inputs.has_text, inputs.opens, scheduled_found a.schedule m scheduled is)
    (status_after set_format set_lawful bytes (λ set. run_or_not made set scheduled) (λ set. IsFirstConflict (stages_in set) stage x y key) (status.Conflict stage x y key) inputs.are_bytes (λ e h. cc) (conflict_after made scheduled stage x y key))

pub incomplete_law : IncompleteLaw
unfolding verdicts_in set_in made_for
incomplete_law a m bytes scheduled inputs is stage =
    let given = inputs.before in
    let verdicts = spells_decoded verdicts_format verdicts_lawful inputs.verdicts inputs.bytes inputs.spells in
    let made = made_for a given.ledger inputs.verdicts in
    rw (given.is_ledger, given.has_verdicts, verdicts, inputs.has_text, inputs.opens, scheduled_found a.schedule m (Some scheduled) is)
    (status_after set_format set_lawful bytes (λ set. run_or_not made set (Some scheduled)) (IsIncompleteAt stage scheduled) (status.Incomplete stage) inputs.are_bytes (λ e h. cc) (incomplete_after made scheduled stage))

-- ---- the schedule's file

schedule_is : {B : Type 0} (r : Result Schedule XdrErr) (steps : ℕ) (rest : Option ScheduledSteps → Result B Status) (at : ℕ) → ((scheduled : Option ScheduledSteps) → status_of (rest scheduled) ≡ status.Schedule at → ⊥)
    → status_of (as_schedule r >>= (λ s. Ok (Some (with_steps s steps))) >>= rest) ≡ status.Schedule at → (e : XdrErr) × (r ≡ Err e) × (e.at ≡ at)
schedule_is (Ok s) steps rest at none h = absurd (none (Some (with_steps s steps)) h)
schedule_is (Err e) steps rest at none h = (e, refl, cc)

schedule_due : {B : Type 0} (bytes : List ℕ) (steps : ℕ) (rest : Option ScheduledSteps → Result B Status) (at : ℕ) → IsBytes bytes → ((scheduled : Option ScheduledSteps) → status_of (rest scheduled) ≡ status.Schedule at → ⊥)
    → (status_of (as_schedule (decoded schedule_format bytes) >>= (λ s. Ok (Some (with_steps s steps))) >>= rest) ≡ status.Schedule at) ↔ ((why : Why) × Refuses schedule_format bytes at why)
schedule_due bytes steps rest at fit none = (
  λ h. let e = schedule_is (decoded schedule_format bytes) steps rest at none h in
      let refuses : Refuses schedule_format bytes e.0.at e.0.why = decoded_refuses schedule_format schedule_lawful bytes fit e.0 e.1 in
      (e.0.why, rw e.2 at refuses),
  λ refuses. rw (refuses_decoded schedule_format schedule_lawful bytes (record { at = at; why = refuses.0 }) fit refuses.1) refl,
)

pub schedule_law : ScheduleLaw
unfolding verdicts_in set_in schedule_in made_for
schedule_law a options m bytes schedule set inputs spells is has fit at =
    let given = inputs.before in
    let verdicts = spells_decoded verdicts_format verdicts_lawful inputs.verdicts inputs.bytes inputs.spells in
    let spelled = spells_decoded set_format set_lawful set bytes spells in
    let made = made_for a given.ledger inputs.verdicts in
    rw (given.is_ledger, given.has_verdicts, verdicts, inputs.has_text, inputs.opens, spelled, is, has)
    (schedule_due schedule options.steps (run_or_not made set) at fit (of_run (λ s. s ≡ status.Schedule at → ⊥) (λ stage x y key h. cc) (λ stage h. cc) (λ h. cc) made set))

-- ---- the verdicts' file

verdicts_is : {B : Type 0} (r : Result Verdicts XdrErr) (rest : Verdicts → Result B Status) (at : ℕ) → ((v : Verdicts) → status_of (rest v) ≡ status.Verdicts at → ⊥) → status_of (as_verdicts r >>= rest) ≡ status.Verdicts at → (e : XdrErr) × (r ≡ Err e) × (e.at ≡ at)
verdicts_is (Ok v) rest at none h = absurd (none v h)
verdicts_is (Err e) rest at none h = (e, refl, cc)

pub verdicts_due : {B : Type 0} (bytes : List ℕ) (rest : Verdicts → Result B Status) (at : ℕ) → IsBytes bytes → ((v : Verdicts) → status_of (rest v) ≡ status.Verdicts at → ⊥) → (status_of (as_verdicts (decoded verdicts_format bytes) >>= rest) ≡ status.Verdicts at) ↔ ((why : Why) × Refuses verdicts_format bytes at why)
verdicts_due bytes rest at fit none = (
  λ h. let e = verdicts_is (decoded verdicts_format bytes) rest at none h in
      let refuses : Refuses verdicts_format bytes e.0.at e.0.why = decoded_refuses verdicts_format verdicts_lawful bytes fit e.0 e.1 in
      (e.0.why, rw e.2 at refuses),
  λ refuses. rw (refuses_decoded verdicts_format verdicts_lawful bytes (record { at = at; why = refuses.0 }) fit refuses.1) refl,
)

pub verdicts_law : VerdictsLaw
unfolding verdicts_in
verdicts_law a m bytes given at =
    rw (given.is_ledger, given.has_verdicts) (verdicts_due bytes _ at given.are_bytes (λ v. set_file _ (never_verdicts at) m a.base64 a.set a.schedule (applied_by a given.ledger v)))

-- ---- simulate

pub simulate_verdicts : SimulateVerdictsLaw
unfolding verdicts_in
simulate_verdicts s m bytes given at =
    rw (given.is_ledger, given.has_verdicts) (verdicts_due bytes _ at given.are_bytes (λ v. envelope_file _ (never_verdicts at) (get m s.tx) s.base64 s.tx (λ e. simulated (file 3 s.out) (simulation_of given.ledger v e s.close_time))))

pub simulate_malformed : SimulateMalformedLaw
unfolding verdicts_in envelope_in
simulate_malformed s m bytes inputs at why =
    let given = inputs.before in
    let verdicts = spells_decoded verdicts_format verdicts_lawful inputs.verdicts inputs.bytes inputs.spells in
    let made = λ (envelope : Envelope). simulated (file 3 s.out) (simulation_of given.ledger inputs.verdicts envelope s.close_time) in
    rw (given.is_ledger, given.has_verdicts, verdicts, inputs.has_text, inputs.opens) (malformed_due envelope_format envelope_lawful bytes made at why inputs.are_bytes)

pub simulate_done : SimulateDoneLaw
unfolding verdicts_in envelope_in
simulate_done s m bytes inputs =
    let given = inputs.before in
    let verdicts = spells_decoded verdicts_format verdicts_lawful inputs.verdicts inputs.bytes inputs.spells in
    let made = λ (envelope : Envelope). simulated (file 3 s.out) (simulation_of given.ledger inputs.verdicts envelope s.close_time) in
    rw (given.is_ledger, given.has_verdicts, verdicts, inputs.has_text, inputs.opens) (done_due envelope_format envelope_lawful bytes made inputs.are_bytes)
