-- No fault is due where each file that a command reads is there.
use Rattle.std.proofs.Common.{ℕ, ◌^◌, List, Bool, true, false, length, Option, Some, None, Result, Ok, Err, IfSome, IsSome}
use Rattle.std.specs.Prelude.{⊤, nat_lt, if◌then◌else◌}
use Rattle.std.specs.FinMap.{get}
use Rattle.base64_text.specs.Text.{bytes_in}
use Rattle.command_words.specs.declared.request.Request.{Request}
use Rattle.command_words.specs.declared.request.ScheduleOptions.{ScheduleOptions}
use Rattle.command_words.specs.declared.request.Request.TheVariants.{Apply, ApplyList, Build, Gen, Migrate, Play, Record, Show}
use Rattle.command_words.specs.declared.request.Request.TheVariants.{Simulate, Vet}
use Rattle.command_words.specs.declared.request.ShowKind.{ShowKind}
use Rattle.command_words.specs.declared.request.ShowKind.TheVariants as kinds
use Rattle.edge_io.specs.Contents.{Contents, FileMap}
use Rattle.ledger_spec.specs.LedgerFile.{ledger_of}
use Rattle.ledger_spec.specs.declared.LedgerRefusal.{LedgerRefusal}
use Rattle.ledger_types.specs.Verdicts.{verdicts_format}
use Rattle.module_vet.specs.Verdict.{verdict_of}
use Rattle.module_spec.specs.declared.flaw.Flaw.{Flaw}
use Rattle.module_spec.specs.declared.flaw.Flaw.TheVariants as flaw
use Rattle.module_vet.specs.declared.Sizes.{Sizes}
use Rattle.schedule_runs.specs.Plans.{first_incomplete}
use Rattle.schedule_runs.specs.Schedule.{schedule_format}
use Rattle.schedule_runs.specs.declared.schedule.Schedule.{Schedule}
use Rattle.tx_xdr.specs.Set.{set_format}
use Rattle.tx_xdr.specs.Envelope.{envelope_format, envelopes_format}
use Rattle.tx_xdr.specs.declared.set.TxSet.{TxSet}
use Rattle.value_types.specs.Formats.{scval_format}
use Rattle.xdr_spec.specs.Decoded.{decoded}
use Rattle.xdr_spec.specs.declared.XdrErr.{XdrErr}
use Rattle.command_io.specs.Inputs.{AreThere, as_bytes, as_ledger, as_spelled, as_verdicts, bytes_of, content_of, envelope_at, envelope_in, envelope_opened, ledger_at, ledger_in, opened, set_at, set_in, set_opened, verdicts_at, verdicts_in, any_ledger_at, log_at, log_in, list_at, list_in, any_ledger_in, value_in}
use Rattle.soroban_top.specs.Asked.{reads_named, schedule_files}
use Rattle.soroban_top.specs.FirstConflict.{FoundConflict, first_conflict, free_of_conflict, stages_in, unless_found}
use Rattle.soroban_top.specs.Scheduled.{as_schedule, complete_for, may_run, scheduled_at, schedule_at, schedule_in, unless_incomplete}
use Rattle.soroban_top.specs.Outcome.{due}
use Rattle.change_log.specs.Log.{log_format}
use Rattle.change_log.specs.Play.{played}
use Rattle.change_log.specs.declared.error.ListIndex.{ListIndex}
use Rattle.change_log.specs.declared.log.Log.{Log}
use Rattle.ledger_spec.specs.LedgerMap.{LedgerMap}
use Rattle.ledger_types.specs.declared.header.Header.{Header}
use Rattle.command_io.specs.Product.{File, file}
use Rattle.command_io.specs.Shown.{shown, shown_at, shown_opened}
use Rattle.command_io.specs.Steps.{◌>>=◌, UnlessFault, status_of}
use Rattle.command_io.specs.Vetted.{as_vetted, vetted, vetted_at}
use Rattle.command_io.specs.declared.status.Status.{Status}
use Rattle.command_io.specs.declared.status.Status.TheVariants.{Fault, TooLong}
use Rattle.soroban_top.specs.Replayed.{played_ledger_at, played_to, replayed}
use Rattle.soroban_top.specs.declared.scheduled.ScheduledSteps.{ScheduledSteps}

abbrev IsNoFault : Status → Type 0
IsNoFault (Fault name) = ⊥
IsNoFault status = ⊤

-- of two steps neither of which is a fault
both : {A B : Type 0} (r : Result A Status) (f : A → Result B Status) → IsNoFault (status_of r) → ((x : A) → IsNoFault (status_of (f x))) → IsNoFault (status_of (r >>= f))
both (Ok x) f first next = next x
both (Err status) f first next = first

by_test : {A : Type 0} (b : Bool) (e : Status) (x : A) → IsNoFault e → IsNoFault (status_of (if b then Err e else Ok x))
by_test true e x h = h
by_test false e x h = tt

read : (found : Option (List ℕ)) (name : List ℕ) → IsSome found → IsNoFault (status_of (bytes_of found name))
read None name there = absurd cc
read (Some bytes) name there = by_test (nat_lt (2 ^ 30) (length bytes)) (TooLong name) bytes tt

as_ledger_judged : {A : Type 0} (r : Result A LedgerRefusal) → IsNoFault (status_of (as_ledger r))
as_ledger_judged (Ok x) = tt
as_ledger_judged (Err e) = tt

as_verdicts_judged : {A : Type 0} (r : Result A XdrErr) → IsNoFault (status_of (as_verdicts r))
as_verdicts_judged (Ok x) = tt
as_verdicts_judged (Err e) = tt

as_spelled_judged : {A : Type 0} (r : Result A XdrErr) → IsNoFault (status_of (as_spelled r))
as_spelled_judged (Ok x) = tt
as_spelled_judged (Err e) = tt

ledger_judged : (bytes : List ℕ) → IsNoFault (status_of (ledger_in bytes))
unfolding ledger_in
ledger_judged bytes = as_ledger_judged (ledger_of true bytes)

any_ledger_judged : (bytes : List ℕ) → IsNoFault (status_of (any_ledger_in bytes))
unfolding any_ledger_in
any_ledger_judged bytes = as_ledger_judged (ledger_of false bytes)

verdicts_judged : (bytes : List ℕ) → IsNoFault (status_of (verdicts_in bytes))
unfolding verdicts_in
verdicts_judged bytes = as_verdicts_judged (decoded verdicts_format bytes)

list_judged : (bytes : List ℕ) → IsNoFault (status_of (list_in bytes))
unfolding list_in
list_judged bytes = as_spelled_judged (decoded envelopes_format bytes)

set_judged : (bytes : List ℕ) → IsNoFault (status_of (set_in bytes))
unfolding set_in
set_judged bytes = as_spelled_judged (decoded set_format bytes)

unless_found_judged : (o : Option FoundConflict) → IsNoFault (status_of (unless_found o))
unless_found_judged None = tt
unless_found_judged (Some f) = tt

conflict_judged : (set : TxSet) → IsNoFault (status_of (free_of_conflict set))
unfolding free_of_conflict
conflict_judged set = unless_found_judged (first_conflict (stages_in set))

unless_incomplete_judged : (o : Option ℕ) → IsNoFault (status_of (unless_incomplete o))
unless_incomplete_judged None = tt
unless_incomplete_judged (Some stage) = tt

complete_judged : (schedule : Schedule) (set : TxSet) → IsNoFault (status_of (complete_for schedule set))
unfolding complete_for
complete_judged schedule set = unless_incomplete_judged (first_incomplete (stages_in set) schedule.stages)

may_run_judged : (scheduled : Option ScheduledSteps) (set : TxSet) → IsNoFault (status_of (may_run scheduled set))
may_run_judged None set = conflict_judged set
may_run_judged (Some scheduled) set = both (free_of_conflict set) _ (conflict_judged set) (λ free. complete_judged scheduled.schedule set)

-- text in Base64 is no fault
bytes_judged : (name : List ℕ) (o : Option (List ℕ)) → IsNoFault (status_of (as_bytes name o))
bytes_judged name None = tt
bytes_judged name (Some bytes) = tt

opened_judged : (base64 : Bool) (name text : List ℕ) → IsNoFault (status_of (opened base64 name text))
opened_judged false name text = tt
opened_judged true name text = bytes_judged name (bytes_in text)

set_opened_judged : (base64 : Bool) (name text : List ℕ) → IsNoFault (status_of (set_opened base64 name text))
set_opened_judged base64 name text = both (opened base64 name text) set_in (opened_judged base64 name text) set_judged

as_vetted_judged : (r : Result Sizes Flaw) → IsNoFault (status_of (as_vetted r))
as_vetted_judged (Ok sizes) = tt
as_vetted_judged (Err flaw.NotAModule) = tt
as_vetted_judged (Err (flaw.Ill func)) = tt
as_vetted_judged (Err (flaw.Unlinked k)) = tt

vetted_judged : (bytes : List ℕ) → IsNoFault (status_of (vetted bytes))
unfolding vetted
vetted_judged bytes = as_vetted_judged (verdict_of bytes)

envelope_judged : (bytes : List ℕ) → IsNoFault (status_of (envelope_in bytes))
unfolding envelope_in
envelope_judged bytes = as_spelled_judged (decoded envelope_format bytes)

envelope_opened_judged : (base64 : Bool) (name text : List ℕ) → IsNoFault (status_of (envelope_opened base64 name text))
envelope_opened_judged base64 name text = both (opened base64 name text) envelope_in (opened_judged base64 name text) envelope_judged

shown_judged : (kind : ShowKind) (bytes : List ℕ) → IsNoFault (status_of (shown kind bytes))
unfolding set_in envelope_in any_ledger_in value_in
shown_judged kinds.Set bytes = both (set_in bytes) _ (as_spelled_judged (decoded set_format bytes)) (λ set. tt)
shown_judged kinds.Envelope bytes = both (envelope_in bytes) _ (as_spelled_judged (decoded envelope_format bytes)) (λ envelope. tt)
shown_judged kinds.Ledger bytes = both (any_ledger_in bytes) _ (as_ledger_judged (ledger_of false bytes)) (λ ledger. tt)
shown_judged kinds.Value bytes = both (value_in bytes) _ (as_spelled_judged (decoded scval_format bytes)) (λ value. tt)

shown_opened_judged : (base64 : Bool) (kind : ShowKind) (name text : List ℕ) → IsNoFault (status_of (shown_opened base64 kind name text))
shown_opened_judged base64 kind name text = both (opened base64 name text) (shown kind) (opened_judged base64 name text) (shown_judged kind)

-- a file that is there and then judged
judged : {A : Type 0} (m : FileMap) (name : List ℕ) (judge : List ℕ → Result A Status) → IsSome (get m name) → ((bytes : List ℕ) → IsNoFault (status_of (judge bytes))) → IsNoFault (status_of (content_of m name >>= judge))
judged m name judge there h = both (content_of m name) judge (read (get m name) name there) h

as_schedule_judged : {A : Type 0} (r : Result A XdrErr) → IsNoFault (status_of (as_schedule r))
as_schedule_judged (Ok x) = tt
as_schedule_judged (Err e) = tt

schedule_judged : (bytes : List ℕ) → IsNoFault (status_of (schedule_in bytes))
unfolding schedule_in
schedule_judged bytes = as_schedule_judged (decoded schedule_format bytes)

scheduled_judged : (m : FileMap) (options : Option ScheduleOptions) → AreThere (schedule_files options) m → IsNoFault (status_of (scheduled_at m options))
scheduled_judged m None there = tt
scheduled_judged m (Some options) there = both (schedule_at m options.file) _ (judged m options.file schedule_in there.0 schedule_judged) (λ s. tt)

log_judged : (bytes : List ℕ) → IsNoFault (status_of (log_in bytes))
unfolding log_in
log_judged bytes = as_spelled_judged (decoded log_format bytes)

played_ledger_judged : (m : FileMap) (back : Bool) (name : List ℕ) → IsSome (get m name) → IsNoFault (status_of (played_ledger_at m back name))
played_ledger_judged m false name there = judged m name ledger_in there ledger_judged
played_ledger_judged m true name there = judged m name any_ledger_in there any_ledger_judged

played_to_judged : (file : File) (stages : ℕ) (r : Result (Header × LedgerMap) (Option ListIndex)) → IsNoFault (status_of (played_to file stages r))
played_to_judged file stages (Ok ledger) = tt
played_to_judged file stages (Err at) = tt

replayed_judged : (file : File) (back : Bool) (log : Log) (ledger : Header × LedgerMap) → IsNoFault (status_of (replayed file back log ledger))
unfolding replayed
replayed_judged file back log ledger = played_to_judged file (length log.stages) (played back log ledger.0 ledger.1)

no_fault : (asked : Option Request) (m : FileMap) → AreThere (reads_named asked) m → IsNoFault (due asked m)
no_fault None m there = tt
no_fault (Some (Apply a)) m there =
    both (ledger_at m a.ledger) _ (judged m a.ledger ledger_in there.0 ledger_judged)
    (λ ledger. both (verdicts_at m a.verdicts) _ (judged m a.verdicts verdicts_in there.1.0 verdicts_judged)
    (λ verdicts. both (set_at m a.base64 a.set) _ (judged m a.set (set_opened a.base64 a.set) there.1.1.0 (set_opened_judged a.base64 a.set))
    (λ set. both (scheduled_at m a.schedule) _ (scheduled_judged m a.schedule there.1.1.1) (λ scheduled. both (may_run scheduled set) _ (may_run_judged scheduled set) (λ free. tt)))))
no_fault (Some (Simulate s)) m there =
    both (ledger_at m s.ledger) _ (judged m s.ledger ledger_in there.0 ledger_judged)
    (λ ledger. both (verdicts_at m s.verdicts) _ (judged m s.verdicts verdicts_in there.1.0 verdicts_judged)
    (λ verdicts. both (envelope_at m s.base64 s.tx) _ (judged m s.tx (envelope_opened s.base64 s.tx) there.1.1.0 (envelope_opened_judged s.base64 s.tx)) (λ envelope. tt)))
no_fault (Some (Show s)) m there =
    both (shown_at m s) _ (judged m s.file (shown_opened s.base64 s.kind s.file) there.0 (shown_opened_judged s.base64 s.kind s.file)) (λ lines. tt)
no_fault (Some (Vet v)) m there =
    both (vetted_at m v.module_file) _ (judged m v.module_file vetted there.0 vetted_judged) (λ lines. tt)
no_fault (Some (Migrate g)) m there =
    both (any_ledger_at m g.ledger) _ (judged m g.ledger any_ledger_in there.0 any_ledger_judged) (λ ledger. tt)
no_fault (Some (Gen g)) m there = tt
no_fault (Some (Play p)) m there =
    both (played_ledger_at m p.back p.ledger) _ (played_ledger_judged m p.back p.ledger there.0)
    (λ ledger. both (log_at m p.log) _ (judged m p.log log_in there.1.0 log_judged)
    (λ log. replayed_judged (file 2 p.ledger_out) p.back log ledger))
no_fault (Some (Record r)) m there =
    both (ledger_at m r.ledger) _ (judged m r.ledger ledger_in there.0 ledger_judged)
    (λ ledger. both (envelope_at m false r.tx) _ (judged m r.tx (envelope_opened false r.tx) there.1.0 (envelope_opened_judged false r.tx)) (λ envelope. tt))
no_fault (Some (Build b)) m there = both (list_at m b.list) _ (judged m b.list list_in there.0 list_judged) (λ list. tt)
no_fault (Some (ApplyList a)) m there =
    both (ledger_at m a.ledger) _ (judged m a.ledger ledger_in there.0 ledger_judged)
    (λ ledger. both (verdicts_at m a.verdicts) _ (judged m a.verdicts verdicts_in there.1.0 verdicts_judged)
    (λ verdicts. both (list_at m a.list) _ (judged m a.list list_in there.1.1.0 list_judged) (λ list. tt)))

unless : (P : Type 0) (status : Status) → IsNoFault status → UnlessFault status P → P
unless P (Fault name) none h = absurd none
unless P status none h = h

-- what holds unless a fault is due, holds where the files are there
pub where_present : (P : Type 0) (known : Contents) (asked : Option Request) → IfSome known (λ m. UnlessFault (due asked m) P) → IfSome known (λ m. AreThere (reads_named asked) m → P)
where_present P None asked h = h
where_present P (Some m) asked h = λ there. unless P (due asked m) (no_fault asked m there) h
