-- What may come of files that are read after others.
use Rattle.std.proofs.Common.{◌≡◌, ℕ, ◌^◌, List, length, Bool, true, false, Option, Some, None, Result, Ok, Err}
use Rattle.std.specs.Prelude.{nat_lt, if◌then◌else◌}
use Rattle.std.specs.FinMap.{get}
use Rattle.base64_text.specs.Text.{bytes_in}
use Rattle.command_words.specs.declared.request.ScheduleOptions.{ScheduleOptions}
use Rattle.edge_io.specs.Contents.{FileMap}
use Rattle.ledger_spec.specs.declared.LedgerWhy.{LedgerWhy}
use Rattle.ledger_types.specs.Verdicts.{verdicts_format}
use Rattle.ledger_types.specs.declared.verdicts.Verdicts.{Verdicts}
use Rattle.schedule_runs.specs.Plans.{first_incomplete}
use Rattle.schedule_runs.specs.Schedule.{schedule_format}
use Rattle.schedule_runs.specs.declared.schedule.Schedule.{Schedule}
use Rattle.tx_xdr.specs.Envelope.{envelope_format, envelopes_format}
use Rattle.tx_xdr.specs.Set.{set_format}
use Rattle.tx_xdr.specs.declared.envelope.Envelope.{Envelope}
use Rattle.tx_xdr.specs.declared.set.TxSet.{TxSet}
use Rattle.xdr_spec.specs.Decoded.{decoded}
use Rattle.xdr_spec.specs.declared.Why.{Why}
use Rattle.xdr_spec.specs.declared.XdrErr.{XdrErr}
use Rattle.command_io.specs.Inputs.{as_bytes, as_spelled, as_verdicts, bytes_of, envelope_in, envelope_opened, opened, set_in, set_opened, verdicts_in, list_in}
use Rattle.command_io.specs.Steps.{◌>>=◌, status_of}
use Rattle.command_io.specs.declared.status.Status.{Status}
use Rattle.command_io.specs.declared.status.Status.TheVariants as status
use Rattle.soroban_top.specs.FirstConflict.{FoundConflict, first_conflict, free_of_conflict, stages_in, unless_found}
use Rattle.soroban_top.specs.Scheduled.{as_schedule, complete_for, may_run, scheduled_at, with_steps, schedule_in, unless_incomplete}
use Rattle.soroban_top.specs.declared.scheduled.ScheduledSteps.{ScheduledSteps}

-- what holds of each status that a command can end with after a set or an envelope was read
pub record AfterSet (P : Status → Type 0) : Type 0 where
  pub fault : (name : List ℕ) → P (status.Fault name)
  pub long : (name : List ℕ) → P (status.TooLong name)
  pub schedule : (at : ℕ) → P (status.Schedule at)
  pub conflict : (stage a b : ℕ) (key : List ℕ) → P (status.Conflict stage a b key)
  pub incomplete : (stage : ℕ) → P (status.Incomplete stage)
  pub done : P status.Done

-- what holds of each status that the file of a set or an envelope can end with
pub record Later (P : Status → Type 0) : Type 0 where
  pub text : (name : List ℕ) → P (status.NotBase64 name)
  pub malformed : (at : ℕ) (why : Why) → P (status.Malformed at why)
  pub after : AfterSet P

pub of_conflict : {B : Type 0} (P : Status → Type 0) → ((stage a b : ℕ) (key : List ℕ) → P (status.Conflict stage a b key)) → P status.Done → (o : Option FoundConflict) (x : B) → P (status_of (unless_found o >>= λ _. Ok x))
of_conflict P conflict done None x = done
of_conflict P conflict done (Some f) x = conflict f.stage f.a f.b f.key

of_complete : {B : Type 0} (P : Status → Type 0) → ((stage : ℕ) → P (status.Incomplete stage)) → P status.Done → (o : Option ℕ) (x : B) → P (status_of (unless_incomplete o >>= λ _. Ok x))
of_complete P incomplete done None x = done
of_complete P incomplete done (Some stage) x = incomplete stage

of_both : {B : Type 0} (P : Status → Type 0) → ((stage a b : ℕ) (key : List ℕ) → P (status.Conflict stage a b key)) → ((stage : ℕ) → P (status.Incomplete stage)) → P status.Done
    → (f : Option FoundConflict) (o : Option ℕ) (x : B) → P (status_of (unless_found f >>= (λ _. unless_incomplete o) >>= (λ _. Ok x)))
of_both P conflict incomplete done None o x = of_complete P incomplete done o x
of_both P conflict incomplete done (Some f) o x = conflict f.stage f.a f.b f.key

-- the set is run in this order, or not
abbrev pub run_or_not : {B : Type 0} → (Option ScheduledSteps → TxSet → B) → TxSet → Option ScheduledSteps → Result B Status
run_or_not f set scheduled = may_run scheduled set >>= λ _. Ok (f scheduled set)

pub of_run : {B : Type 0} (P : Status → Type 0) → ((stage a b : ℕ) (key : List ℕ) → P (status.Conflict stage a b key)) → ((stage : ℕ) → P (status.Incomplete stage)) → P status.Done
    → (f : Option ScheduledSteps → TxSet → B) (set : TxSet) (scheduled : Option ScheduledSteps) → P (status_of (run_or_not f set scheduled))
unfolding free_of_conflict complete_for
of_run P conflict incomplete done f set None = of_conflict P conflict done (first_conflict (stages_in set)) (f None set)
of_run P conflict incomplete done f set (Some scheduled) =
    of_both P conflict incomplete done (first_conflict (stages_in set)) (first_incomplete (stages_in set) scheduled.schedule.stages) (f (Some scheduled) set)

-- ---- the schedule's file, if one is given

of_schedule : {B : Type 0} (P : Status → Type 0) → AfterSet P → (r : Result Schedule XdrErr) (steps : ℕ) (rest : Option ScheduledSteps → Result B Status) → ((scheduled : Option ScheduledSteps) → P (status_of (rest scheduled)))
    → P (status_of (as_schedule r >>= (λ s. Ok (Some (with_steps s steps))) >>= rest))
of_schedule P after (Ok s) steps rest later = later (Some (with_steps s steps))
of_schedule P after (Err e) steps rest later = after.schedule e.at

schedule_by_length : {B : Type 0} (P : Status → Type 0) → AfterSet P → (long : Bool) (name bytes : List ℕ) (steps : ℕ) (rest : Option ScheduledSteps → Result B Status) → ((scheduled : Option ScheduledSteps) → P (status_of (rest scheduled)))
    → P (status_of ((if long then Err (status.TooLong name) else Ok bytes) >>= schedule_in >>= (λ s. Ok (Some (with_steps s steps))) >>= rest))
unfolding schedule_in
schedule_by_length P after true name bytes steps rest later = after.long name
schedule_by_length P after false name bytes steps rest later = of_schedule P after (decoded schedule_format bytes) steps rest later

schedule_file : {B : Type 0} (P : Status → Type 0) → AfterSet P → (found : Option (List ℕ)) (name : List ℕ) (steps : ℕ) (rest : Option ScheduledSteps → Result B Status) → ((scheduled : Option ScheduledSteps) → P (status_of (rest scheduled)))
    → P (status_of (bytes_of found name >>= schedule_in >>= (λ s. Ok (Some (with_steps s steps))) >>= rest))
schedule_file P after None name steps rest later = after.fault name
schedule_file P after (Some bytes) name steps rest later = schedule_by_length P after (nat_lt (2 ^ 30) (length bytes)) name bytes steps rest later

-- the order is read, and the set is run in it
abbrev pub scheduled_or_not : {B : Type 0} → FileMap → Option ScheduleOptions → (Option ScheduledSteps → TxSet → B) → TxSet → Result B Status
scheduled_or_not m options f set = scheduled_at m options >>= run_or_not f set

pub of_scheduled : {B : Type 0} (P : Status → Type 0) → AfterSet P → (m : FileMap) (options : Option ScheduleOptions) (f : Option ScheduledSteps → TxSet → B) (set : TxSet) → P (status_of (scheduled_or_not m options f set))
of_scheduled P after m None f set = of_run P after.conflict after.incomplete after.done f set None
of_scheduled P after m (Some options) f set =
    schedule_file P after (get m options.file) options.file options.steps (run_or_not f set) (of_run P after.conflict after.incomplete after.done f set)

of_set : {B : Type 0} (P : Status → Type 0) → Later P → (r : Result TxSet XdrErr) (m : FileMap) (options : Option ScheduleOptions) (f : Option ScheduledSteps → TxSet → B) → P (status_of (as_spelled r >>= scheduled_or_not m options f))
of_set P later (Ok s) m options f = of_scheduled P later.after m options f s
of_set P later (Err e) m options f = later.malformed e.at e.why

-- ---- a file that may be base64 text

of_text : {A B : Type 0} (P : Status → Type 0) → Later P → (found : Option (List ℕ)) (name : List ℕ) (judge : List ℕ → Result A Status) (rest : A → Result B Status) → ((bytes : List ℕ) → P (status_of (judge bytes >>= rest)))
    → P (status_of (as_bytes name found >>= judge >>= rest))
of_text P later None name judge rest after = later.text name
of_text P later (Some bytes) name judge rest after = after bytes

by_flag : {A B : Type 0} (P : Status → Type 0) → Later P → (base64 : Bool) (name text : List ℕ) (judge : List ℕ → Result A Status) (rest : A → Result B Status) → ((bytes : List ℕ) → P (status_of (judge bytes >>= rest)))
    → P (status_of (opened base64 name text >>= judge >>= rest))
by_flag P later false name text judge rest after = after text
by_flag P later true name text judge rest after = of_text P later (bytes_in text) name judge rest after

by_length : {A B : Type 0} (P : Status → Type 0) → Later P → (long base64 : Bool) (name bytes : List ℕ) (judge : List ℕ → Result A Status) (rest : A → Result B Status) → ((bytes : List ℕ) → P (status_of (judge bytes >>= rest)))
    → P (status_of ((if long then Err (status.TooLong name) else Ok bytes) >>= (λ text. opened base64 name text >>= judge) >>= rest))
by_length P later true base64 name bytes judge rest after = later.after.long name
by_length P later false base64 name bytes judge rest after = by_flag P later base64 name bytes judge rest after

text_file : {A B : Type 0} (P : Status → Type 0) → Later P → (found : Option (List ℕ)) (base64 : Bool) (name : List ℕ) (judge : List ℕ → Result A Status) (rest : A → Result B Status) → ((bytes : List ℕ) → P (status_of (judge bytes >>= rest)))
    → P (status_of (bytes_of found name >>= (λ text. opened base64 name text >>= judge) >>= rest))
text_file P later None base64 name judge rest after = later.after.fault name
text_file P later (Some bytes) base64 name judge rest after = by_length P later (nat_lt (2 ^ 30) (length bytes)) base64 name bytes judge rest after

pub set_file : {B : Type 0} (P : Status → Type 0) → Later P → (m : FileMap) (base64 : Bool) (name : List ℕ) (options : Option ScheduleOptions) (f : Option ScheduledSteps → TxSet → B)
    → P (status_of (bytes_of (get m name) name >>= set_opened base64 name >>= scheduled_or_not m options f))
unfolding set_in
set_file P later m base64 name options f = text_file P later (get m name) base64 name set_in (scheduled_or_not m options f) (λ bytes. of_set P later (decoded set_format bytes) m options f)

of_spelled : {A B : Type 0} (P : Status → Type 0) → Later P → (r : Result A XdrErr) (f : A → B) → P (status_of (as_spelled r >>= (λ x. Ok (f x))))
of_spelled P later (Ok x) f = later.after.done
of_spelled P later (Err e) f = later.malformed e.at e.why

pub envelope_file : {B : Type 0} (P : Status → Type 0) → Later P → (found : Option (List ℕ)) (base64 : Bool) (name : List ℕ) (f : Envelope → B) → P (status_of (bytes_of found name >>= envelope_opened base64 name >>= (λ e. Ok (f e))))
unfolding envelope_in
envelope_file P later found base64 name f = text_file P later found base64 name envelope_in (λ e. Ok (f e)) (λ bytes. of_spelled P later (decoded envelope_format bytes) f)

pub list_file : {B : Type 0} (P : Status → Type 0) → Later P → (found : Option (List ℕ)) (name : List ℕ) (f : List Envelope → B) → P (status_of (bytes_of found name >>= list_in >>= (λ l. Ok (f l))))
unfolding list_in
list_file P later found name f = text_file P later found false name list_in (λ l. Ok (f l)) (λ bytes. of_spelled P later (decoded envelopes_format bytes) f)

-- ---- the verdicts' file, and what is read after it

of_verdicts : {B : Type 0} (P : Status → Type 0) → ((at : ℕ) → P (status.Verdicts at)) → (r : Result Verdicts XdrErr) (rest : Verdicts → Result B Status) → ((v : Verdicts) → P (status_of (rest v))) → P (status_of (as_verdicts r >>= rest))
of_verdicts P refused (Ok v) rest later = later v
of_verdicts P refused (Err e) rest later = refused e.at

verdicts_by_length : {B : Type 0} (P : Status → Type 0) → Later P → ((at : ℕ) → P (status.Verdicts at)) → (long : Bool) (name bytes : List ℕ) (rest : Verdicts → Result B Status) → ((v : Verdicts) → P (status_of (rest v)))
    → P (status_of ((if long then Err (status.TooLong name) else Ok bytes) >>= verdicts_in >>= rest))
unfolding verdicts_in
verdicts_by_length P later refused true name bytes rest after = later.after.long name
verdicts_by_length P later refused false name bytes rest after = of_verdicts P refused (decoded verdicts_format bytes) rest after

pub verdicts_file : {B : Type 0} (P : Status → Type 0) → Later P → ((at : ℕ) → P (status.Verdicts at)) → (found : Option (List ℕ)) (name : List ℕ) (rest : Verdicts → Result B Status) → ((v : Verdicts) → P (status_of (rest v)))
    → P (status_of (bytes_of found name >>= verdicts_in >>= rest))
verdicts_file P later refused None name rest after = later.after.fault name
verdicts_file P later refused (Some bytes) name rest after = verdicts_by_length P later refused (nat_lt (2 ^ 30) (length bytes)) name bytes rest after

-- ---- these files are no cause of a refused ledger, and the last one none of refused verdicts

pub never_ledger : (why : LedgerWhy) (at : ℕ) → Later (λ s. s ≡ status.Ledger why at → ⊥)
never_ledger why at = record {
  text = λ name h. cc;
  malformed = λ place why h. cc;
  after = record {
    fault = λ name h. cc;
    long = λ name h. cc;
    schedule = λ place h. cc;
    conflict = λ stage x y key h. cc;
    incomplete = λ stage h. cc;
    done = λ h. cc;
  };
}

pub never_verdicts : (at : ℕ) → Later (λ s. s ≡ status.Verdicts at → ⊥)
never_verdicts at = record {
  text = λ name h. cc;
  malformed = λ place why h. cc;
  after = record {
    fault = λ name h. cc;
    long = λ name h. cc;
    schedule = λ place h. cc;
    conflict = λ stage x y key h. cc;
    incomplete = λ stage h. cc;
    done = λ h. cc;
  };
}
