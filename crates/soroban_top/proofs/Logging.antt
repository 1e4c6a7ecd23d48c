-- The change log that `apply` keeps: what is stored of it, and what it leads to.
use Rattle.std.specs.Prelude.{IfOk, is_some, if◌then◌else◌}
use Rattle.std.specs.Option.{option_map}
use Rattle.std.proofs.Common.{◌≡◌, ℕ, Vec, Bool, true, false, List, Option, Some, None, Result, Ok, Err, IfSome, refl, sym, ap, ap₂, subst, ◌∙◌}
use Rattle.apply_spec.specs.Runs.{new_header, run_set}
use Rattle.change_log.specs.Log.{log_format}
use Rattle.change_log.specs.Play.{played}
use Rattle.change_log.specs.declared.error.ListIndex.{ListIndex}
use Rattle.change_log.specs.declared.log.Log.{Log}
use Rattle.command_words.specs.declared.request.ApplyRequest.{ApplyRequest}
use Rattle.command_words.specs.declared.request.Request.{Request}
use Rattle.command_words.specs.declared.request.Request.TheVariants.{Apply}
use Rattle.command_words.specs.declared.request.ScheduleOptions.{ScheduleOptions}
use Rattle.edge_io.specs.Contents.{Contents, FileMap}
use Rattle.spec_apply.specs.Logged.{logged_set}
use Rattle.ledger_spec.specs.LedgerMap.{LedgerMap, IsLedgerMap}
use Rattle.ledger_types.specs.declared.header.Header.{Header}
use Rattle.ledger_types.specs.declared.verdicts.Verdicts.{Verdicts}
use Rattle.tx_xdr.specs.declared.set.TxSet.{TxSet}
use Rattle.command_io.specs.Inputs.{ledger_at, set_at, verdicts_at}
use Rattle.command_io.specs.Left.{Leaves}
use Rattle.command_io.specs.Lines.{Finishes}
use Rattle.command_io.specs.Product.{Made}
use Rattle.command_io.specs.Steps.{Gives, status_of, viewed}
use Rattle.command_io.specs.declared.status.Status.{Status}
use Rattle.soroban_top.specs.Asked.{log_asked, log_files, reads_named}
use Rattle.soroban_top.specs.Ends.{Ends, outside}
use Rattle.soroban_top.specs.LogPlays.{LogPlays, LogPlaysIf, SetPlays}
use Rattle.soroban_top.specs.LogStored.{log_after, log_bytes, log_target, logs_by, with_log}
use Rattle.soroban_top.specs.Outcome.{applied_by, outcome_if, outcome_of, says_of}
use Rattle.soroban_top.specs.Scheduled.{may_run, scheduled_at}
use Rattle.soroban_top.specs.declared.scheduled.ScheduledSteps.{ScheduledSteps}

-- ---- a log, if one is kept

-- no test is both
pub not_both : (b : Bool) → b ≡ true → b ≡ false → ⊥
not_both b e f = cc

-- what is kept, and that nothing is, as one case says it
pub kept_if : {A : Type 0} (logs : Bool) (x y : A) → logs ≡ true → x ≡ y → ◌≡◌ {A = Option A} (Some x) (if logs then Some y else None)
kept_if true x y e h = ap Some h
kept_if false x y e h = absurd (not_both false e refl)

pub none_if : {A : Type 0} (logs : Bool) (y : A) → logs ≡ false → ◌≡◌ {A = Option A} None (if logs then Some y else None)
none_if true y e = absurd (not_both true refl e)
none_if false y e = refl

-- what is written of it
pub spelled_if : (logs : Bool) (ledger : Header × LedgerMap) (verdicts : Verdicts) (set : TxSet) (close_time : ℕ)
    → option_map (λ (l : Log). log_format.spell l)
    (if logs then Some (logged_set ledger.0 verdicts ledger.1 set close_time) else None)
    ≡ (if logs then Some (log_bytes ledger verdicts set close_time) else None)
unfolding log_bytes
spelled_if true ledger verdicts set close_time = refl
spelled_if false ledger verdicts set close_time = refl

-- what is stored of it
pub stored_is : (scheduled : Option ScheduledSteps) (name : Option (List ℕ)) (logs : Bool) (bytes : List ℕ) (made : Made)
    → logs ≡ is_some name
    → log_after name (if logs_by scheduled logs then Some bytes else None) made ≡ with_log (log_asked scheduled name) bytes made
stored_is None None logs bytes made kept = ap (λ (b : Bool). log_after None (if b then Some bytes else None) made) kept
stored_is None (Some n) logs bytes made kept = ap (λ (b : Bool). log_after (Some n) (if b then Some bytes else None) made) kept
stored_is (Some s) name logs bytes made kept = refl

-- its file
targets_are : (schedule : Option ScheduleOptions) (scheduled : Option ScheduledSteps) (name : Option (List ℕ)) (logs : Bool)
    → is_some scheduled ≡ is_some schedule → logs ≡ is_some name
    → log_target (logs_by scheduled logs) name ≡ log_files (log_asked schedule name)
targets_are None None None logs same kept = ap (λ (b : Bool). log_target b None) kept
targets_are None None (Some n) logs same kept = ap (λ (b : Bool). log_target b (Some n)) kept
targets_are None (Some s) name logs same kept = absurd cc
targets_are (Some o) None name logs same kept = absurd cc
targets_are (Some o) (Some s) name logs same kept = refl

some_bytes : {Z : Type 0} (o : Option (Vec ℕ Z)) → is_some (option_map (λ b. b.items) o) ≡ is_some o
some_bytes None = refl
some_bytes (Some b) = refl

some_if : (logs : Bool) (bytes : List ℕ) → is_some (if logs then Some bytes else None) ≡ logs
some_if true bytes = refl
some_if false bytes = refl

pub log_file : {Z : Type 0} (schedule : Option ScheduleOptions) (scheduled : Option ScheduledSteps) (name : Option (List ℕ))
    (logs : Bool) (bytes : List ℕ) (log : Option (Vec ℕ Z)) → is_some scheduled ≡ is_some schedule → logs ≡ is_some name
    → option_map (λ b. b.items) log ≡ (if logs_by scheduled logs then Some bytes else None)
    → log_target (is_some log) name ≡ log_files (log_asked schedule name)
log_file schedule scheduled name logs bytes log same kept is =
    ap (λ (b : Bool). log_target b name)
    (sym (some_bytes log) ∙ ap (λ (o : Option (List ℕ)). is_some o) is ∙ some_if (logs_by scheduled logs) bytes)
    ∙ targets_are schedule scheduled name logs same kept

-- ---- what it leads to

abbrev Ledgers : Type 0
Ledgers = Result (Header × LedgerMap) (Option ListIndex)

-- the log of a set plays between the ledgers, from what `apply_logged` says of it
pub set_plays : (ledger : Header × LedgerMap) (after : Header) (left : LedgerMap) (verdicts : Verdicts) (set : TxSet)
    (close_time : ℕ) (log : Log)
    → log ≡ logged_set ledger.0 verdicts ledger.1 set close_time → after ≡ new_header ledger.0 close_time
    → left ≡ (run_set ledger.0 verdicts ledger.1 set close_time).entries → log_format.fits log → IsLedgerMap left
    → played false log ledger.0 ledger.1 ≡ Ok (after, left) → played true log after left ≡ Ok ledger
    → SetPlays ledger verdicts set close_time
set_plays ledger after left verdicts set close_time log is header entries fits is_map forwards backwards = record {
  fits = subst (λ (l : Log). log_format.fits l) is fits;
  is_map = subst IsLedgerMap entries is_map;
  forwards = ap (λ (l : Log). played false l ledger.0 ledger.1) (sym is)
      ∙ forwards
      ∙ ap₂ (λ (h : Header) (m : LedgerMap). let r : Ledgers = Ok (h, m) in r) header entries;
  backwards = ap₂ (λ (h : Header) (m : LedgerMap). played true (logged_set ledger.0 verdicts ledger.1 set close_time) h m)
      (sym header) (sym entries)
      ∙ ap (λ (l : Log). played true l after left) (sym is)
      ∙ backwards;
}

-- ---- the files that `apply` reads

same_of : {A : Type 0} (r : Result A Status) (x y : A) → r ≡ Ok x → r ≡ Ok y → x ≡ y
same_of r x y e f = cc

-- a schedule that is read was asked for
none_asked : (r : Result (Option ScheduledSteps) Status) → r ≡ Ok None → (scheduled : Option ScheduledSteps) → r ≡ Ok scheduled
    → scheduled ≡ None
none_asked r e scheduled f = cc

-- if a log is asked for, one is kept
logs_asked : (schedule : Option ScheduleOptions) (log : Option (List ℕ)) (m : FileMap) (scheduled : Option ScheduledSteps)
    (logs : Bool) (name : List ℕ) → scheduled_at m schedule ≡ Ok scheduled → logs ≡ is_some log → log_asked schedule log ≡ Some name
    → logs_by scheduled logs ≡ true
logs_asked None log m scheduled logs name is kept asked =
    ap (λ (s : Option ScheduledSteps). logs_by s logs) (none_asked (Ok None) refl scheduled is)
    ∙ kept
    ∙ ap (λ (o : Option (List ℕ)). is_some o) asked
logs_asked (Some schedule) log m scheduled logs name is kept asked = absurd cc

-- what `apply` read of files, each of which was read where the one before it had left them
pub record HasRead (a : ApplyRequest) (first : Contents) (ledger : Header × LedgerMap) (verdicts : Verdicts) (set : TxSet)
    (scheduled : Option ScheduledSteps) : Type 0 where
  pub of_ledger : IfSome first (λ m. ledger_at m a.ledger ≡ Ok ledger)
  pub of_verdicts : IfSome first (λ m. verdicts_at m a.verdicts ≡ Ok verdicts)
  pub of_set : IfSome first (λ m. set_at m a.base64 a.set ≡ Ok set)
  pub of_schedule : IfSome first (λ m. scheduled_at m a.schedule ≡ Ok scheduled)

pub has_read : (a : ApplyRequest) (first second third fourth : Contents) (ledger : Header × LedgerMap) (verdicts : Verdicts)
    (set : TxSet) (scheduled : Option ScheduledSteps)
    → IfSome first (λ m. ledger_at m a.ledger ≡ Ok ledger) → second ≡ first
    → IfSome second (λ m. verdicts_at m a.verdicts ≡ Ok verdicts) → third ≡ second
    → IfSome third (λ m. set_at m a.base64 a.set ≡ Ok set) → fourth ≡ third
    → IfSome fourth (λ m. scheduled_at m a.schedule ≡ Ok scheduled) → HasRead a first ledger verdicts set scheduled
has_read a first second third fourth ledger verdicts set scheduled of_ledger s of_verdicts t of_set u of_schedule = record {
  of_ledger = of_ledger;
  of_verdicts = subst (λ (k : Contents). IfSome k (λ m. verdicts_at m a.verdicts ≡ Ok verdicts)) s of_verdicts;
  of_set = subst (λ (k : Contents). IfSome k (λ m. set_at m a.base64 a.set ≡ Ok set)) (t ∙ s) of_set;
  of_schedule = subst (λ (k : Contents). IfSome k (λ m. scheduled_at m a.schedule ≡ Ok scheduled)) (u ∙ t ∙ s) of_schedule;
}

-- what is made of them is the outcome
pub outcome_is : (a : ApplyRequest) (known : Contents) (ledger : Header × LedgerMap) (verdicts : Verdicts) (set : TxSet)
    (scheduled : Option ScheduledSteps) (made : Made) → HasRead a known ledger verdicts set scheduled
    → may_run scheduled set ≡ Ok tt → made ≡ applied_by a ledger verdicts scheduled set
    → IfSome known (λ m. outcome_of (Apply a) m ≡ Ok made)
outcome_is a None ledger verdicts set scheduled made read runs is = tt
outcome_is a (Some m) ledger verdicts set scheduled made read runs is =
    rw (read.of_ledger, read.of_verdicts, read.of_set, read.of_schedule, runs, is) refl

-- what the log leads to that was made of them is what the log of the set leads to
pub log_plays : (a : ApplyRequest) (known : Contents) (ledger : Header × LedgerMap) (verdicts : Verdicts) (set : TxSet)
    (scheduled : Option ScheduledSteps) (logs : Bool) → HasRead a known ledger verdicts set scheduled → logs ≡ is_some a.log
    → (logs_by scheduled logs ≡ true → SetPlays ledger verdicts set a.close_time) → IfSome known (LogPlays a)
log_plays a None ledger verdicts set scheduled logs read kept plays = tt
log_plays a (Some m) ledger verdicts set scheduled logs read kept plays = λ l v x name asked is_ledger is_verdicts is_set.
    subst (λ (y : Header × LedgerMap). SetPlays y v x a.close_time) (same_of (ledger_at m a.ledger) ledger l read.of_ledger is_ledger)
    (subst (λ (y : Verdicts). SetPlays ledger y x a.close_time)
    (same_of (verdicts_at m a.verdicts) verdicts v read.of_verdicts is_verdicts)
    (subst (λ (y : TxSet). SetPlays ledger verdicts y a.close_time) (same_of (set_at m a.base64 a.set) set x read.of_set is_set)
    (plays (logs_asked a.schedule a.log m scheduled logs name read.of_schedule kept asked))))

-- the other commands store no log
pub no_log : {A : Type 0} (request : Request) (r : Result A Status) (known : Contents) → ((m : FileMap) → LogPlaysIf (Some request) m)
    → IfOk r (λ x. IfSome known (λ m. LogPlaysIf (Some request) m))
no_log request (Ok x) None none = tt
no_log request (Ok x) (Some m) none = none m
no_log request (Err e) known none = tt

-- a run by a schedule keeps none
pub none_kept : {A : Type 0} (r : Result A Status) (scheduled : Option ScheduledSteps) (s : ScheduledSteps) (logs : Bool) (P : Type 0)
    → scheduled ≡ Some s → IfOk r (λ x. logs_by scheduled logs ≡ true → P)
none_kept (Ok x) scheduled s logs P is = λ e.
    absurd (not_both (logs_by scheduled logs) e (ap (λ (o : Option ScheduledSteps). logs_by o logs) is))
none_kept (Err e) scheduled s logs P is = tt

-- how a command ended, from what it came to and how that was printed
pub ends_known : {Z : Type 0} (asked : Option Request) (known new : Contents) (outcome : Result (Vec ℕ Z) Status) (result : Status)
    (text after : Option (List ℕ)) → IfSome known (λ m. Gives (λ v. v.items) outcome (says_of (outcome_if asked m)))
    → IfSome known (λ m. Leaves (status_of outcome) (reads_named asked) (outcome_if asked m) known new)
    → Finishes (viewed (λ v. v.items) outcome) result text after
    → IfOk outcome (λ x. IfSome known (λ m. LogPlaysIf asked m))
    → IfSome known (λ m. Ends asked m result (outside known text) (outside new after))
ends_known asked None new outcome result text after due files said plays = tt
ends_known asked (Some m) new (Ok v) result text after due files said plays =
    record { outcome = Ok v.items; is_due = due; files = files; text = said; plays = plays }
ends_known asked (Some m) new (Err status) result text after due files said plays =
    record { outcome = Err status; is_due = due; files = files; text = said; plays = tt }
