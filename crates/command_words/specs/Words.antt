-- The words of a command line, as clap reads them (own).
use Rattle.std.specs.Prelude.{◌≤◌, ◌<◌, ◌^◌, ⊤, Bool, true, false, List, [], ◌∷◌, Option, Some, None, if◌then◌else◌, codes}
use Rattle.std.specs.Prelude.{option_and_then}
use Rattle.std.specs.Str.{bytes_eq}
use Rattle.clap.specs.Faults.{fault_of}
use Rattle.clap.specs.Kinds.{Kinds}
use Rattle.clap.specs.Simple.{subcommand_of}
use Rattle.clap.specs.Walk.{Row, Text, first_of}
use Rattle.command_words.specs.Commands.{soroban_app}
use Rattle.command_words.specs.Values.{all_steps, are_names, back_in, clusters_in, count_in, is_set, kind_in, number64_in}
use Rattle.command_words.specs.Values.{nonce_in, number32_in, with_name, workers_in}
use Rattle.command_words.specs.declared.request.Request.{Request}
use Rattle.command_words.specs.declared.request.ScheduleOptions.{ScheduleOptions}
use Rattle.command_words.specs.declared.request.Request.TheVariants.{Apply, ApplyList, Build, Gen, Migrate, Play, Record}
use Rattle.command_words.specs.declared.request.Request.TheVariants.{Show, Simulate, Vet}

infixl 10 ◌>>=◌
abbrev ◌>>=◌ : {A B : Type 0} → Option A → (A → Option B) → Option B
o >>= f = option_and_then f o

-- a value if the test holds
abbrev pub guard : Bool → Option (Unit {0})
guard true = Some tt
guard false = None

-- whether the flag --base64 is among the words
abbrev pub has_base64 : List Row → Bool
has_base64 rows = is_set (first_of (codes "base64") rows)

-- The schedule of `apply`, if one is given: its file and the number of its steps, which is 2^64 - 1 if it is not given. A number
-- of steps without a schedule is wrong.
abbrev pub schedule_from : Option Text → Option Text → Option (Option ScheduleOptions)
schedule_from None None = Some None
schedule_from None (Some text) = None
schedule_from (Some file) None = Some (Some (record { file = file; steps = all_steps }))
schedule_from (Some file) (Some text) = do
  steps ← number64_in text
  Some (Some (record { file = file; steps = steps }))

-- The file of the change log of `apply`, if one is asked for. A log together with a schedule is wrong.
abbrev pub log_from : Option Text → Option ScheduleOptions → Option (Option Text)
log_from None schedule = Some None
log_from (Some file) None = Some (Some file)
log_from (Some file) (Some schedule) = None

-- the file of a schedule or of a change log, if there is one
abbrev pub more_of : Option ScheduleOptions → Option Text → Option Text
more_of None log = log
more_of (Some schedule) log = Some schedule.file

-- apply, with the values of its options
abbrev pub apply_from : List Row → Option Request
apply_from rows = do
  set ← first_of (codes "set") rows
  ledger ← first_of (codes "ledger") rows
  verdicts ← first_of (codes "verdicts") rows
  close_time ← option_and_then number64_in (first_of (codes "close-time") rows)
  workers ← option_and_then workers_in (first_of (codes "workers") rows)
  report ← first_of (codes "report") rows
  ledger_out ← first_of (codes "ledger-out") rows
  schedule ← schedule_from (first_of (codes "schedule") rows) (first_of (codes "steps") rows)
  log ← log_from (first_of (codes "log") rows) schedule
  _ ← guard (are_names (with_name (more_of schedule log) (set ∷ ledger ∷ verdicts ∷ report ∷ ledger_out ∷ [])))
  Some (Apply (record {
    set = set;
    ledger = ledger;
    verdicts = verdicts;
    close_time = close_time;
    workers = workers;
    report = report;
    ledger_out = ledger_out;
    schedule = schedule;
    log = log;
    base64 = has_base64 rows;
  }))

-- simulate, with the values of its options
abbrev pub simulate_from : List Row → Option Request
simulate_from rows = do
  tx ← first_of (codes "tx") rows
  ledger ← first_of (codes "ledger") rows
  verdicts ← first_of (codes "verdicts") rows
  close_time ← option_and_then number64_in (first_of (codes "close-time") rows)
  out ← first_of (codes "out") rows
  _ ← guard (are_names (tx ∷ ledger ∷ verdicts ∷ out ∷ []))
  Some (Simulate (record {
    tx = tx;
    ledger = ledger;
    verdicts = verdicts;
    close_time = close_time;
    out = out;
    base64 = has_base64 rows;
  }))

-- show, with the values of its options
abbrev pub show_from : List Row → Option Request
show_from rows = do
  kind ← option_and_then kind_in (first_of (codes "kind") rows)
  file ← first_of (codes "file") rows
  _ ← guard (are_names (file ∷ []))
  Some (Show (record { kind = kind; file = file; base64 = has_base64 rows }))

-- vet, with the value of its option
abbrev pub vet_from : List Row → Option Request
vet_from rows = do
  module_file ← first_of (codes "module") rows
  _ ← guard (are_names (module_file ∷ []))
  Some (Vet (record { module_file = module_file }))

-- migrate, with the values of its options
abbrev pub migrate_from : List Row → Option Request
migrate_from rows = do
  ledger ← first_of (codes "ledger") rows
  ledger_out ← first_of (codes "ledger-out") rows
  _ ← guard (are_names (ledger ∷ ledger_out ∷ []))
  Some (Migrate (record { ledger = ledger; ledger_out = ledger_out }))

-- gen, with the values of its options
abbrev pub gen_from : List Row → Option Request
gen_from rows = do
  count ← option_and_then count_in (first_of (codes "count") rows)
  seed ← option_and_then number64_in (first_of (codes "seed") rows)
  set ← first_of (codes "set") rows
  ledger ← first_of (codes "ledger") rows
  verdicts ← first_of (codes "verdicts") rows
  _ ← guard (are_names (set ∷ ledger ∷ verdicts ∷ []))
  Some (Gen (record { count = count; seed = seed; set = set; ledger = ledger; verdicts = verdicts }))

-- build, with the values of its options
abbrev pub build_from : List Row → Option Request
build_from rows = do
  list ← first_of (codes "list") rows
  clusters ← option_and_then clusters_in (first_of (codes "clusters") rows)
  set ← first_of (codes "set") rows
  _ ← guard (are_names (list ∷ set ∷ []))
  Some (Build (record { list = list; clusters = clusters; set = set }))

-- play, with the values of its options
abbrev pub play_from : List Row → Option Request
play_from rows = do
  log ← first_of (codes "log") rows
  ledger ← first_of (codes "ledger") rows
  ledger_out ← first_of (codes "ledger-out") rows
  back ← option_and_then back_in (first_of (codes "back") rows)
  _ ← guard (are_names (log ∷ ledger ∷ ledger_out ∷ []))
  Some (Play (record { log = log; ledger = ledger; ledger_out = ledger_out; back = back }))

-- apply-list, with the values of its options
abbrev pub apply_list_from : List Row → Option Request
apply_list_from rows = do
  list ← first_of (codes "list") rows
  ledger ← first_of (codes "ledger") rows
  verdicts ← first_of (codes "verdicts") rows
  close_time ← option_and_then number64_in (first_of (codes "close-time") rows)
  workers ← option_and_then workers_in (first_of (codes "workers") rows)
  report ← first_of (codes "report") rows
  ledger_out ← first_of (codes "ledger-out") rows
  _ ← guard (are_names (list ∷ ledger ∷ verdicts ∷ report ∷ ledger_out ∷ []))
  Some (ApplyList (record {
    list = list;
    ledger = ledger;
    verdicts = verdicts;
    close_time = close_time;
    workers = workers;
    report = report;
    ledger_out = ledger_out;
  }))

-- record, with the values of its options
abbrev pub record_from : List Row → Option Request
record_from rows = do
  tx ← first_of (codes "tx") rows
  ledger ← first_of (codes "ledger") rows
  close_time ← option_and_then number64_in (first_of (codes "close-time") rows)
  nonce ← option_and_then nonce_in (first_of (codes "nonce") rows)
  expiration ← option_and_then number32_in (first_of (codes "expiration") rows)
  out ← first_of (codes "out") rows
  _ ← guard (are_names (tx ∷ ledger ∷ out ∷ []))
  Some (Record (record { tx = tx; ledger = ledger; close_time = close_time; nonce = nonce; expiration = expiration; out = out }))

-- the numbers of a request are in their ranges
abbrev pub IsInRange : Request → Type 0
IsInRange (Apply a) = (1 ≤ a.workers) × (a.workers ≤ 64)
IsInRange (Gen g) = (1 ≤ g.count) × (g.count ≤ 100000)
IsInRange (Build b) = (1 ≤ b.clusters) × (b.clusters ≤ 1024)
IsInRange (ApplyList a) = (1 ≤ a.workers) × (a.workers ≤ 64)
IsInRange (Record r) = (r.nonce ≤ 2 ^ 62) × (r.expiration < 2 ^ 32)
IsInRange _ = ⊤

-- the command of a subcommand's matches
abbrev pub asked_from : Option (Text × List Row) → Option Request
asked_from None = None
asked_from (Some found) = if bytes_eq found.0 (codes "apply") then apply_from found.1
    else (if bytes_eq found.0 (codes "simulate") then simulate_from found.1
    else (if bytes_eq found.0 (codes "show") then show_from found.1
    else (if bytes_eq found.0 (codes "vet") then vet_from found.1
    else (if bytes_eq found.0 (codes "migrate") then migrate_from found.1
    else (if bytes_eq found.0 (codes "gen") then gen_from found.1
    else (if bytes_eq found.0 (codes "build") then build_from found.1
    else (if bytes_eq found.0 (codes "play") then play_from found.1
    else (if bytes_eq found.0 (codes "apply-list") then apply_list_from found.1
    else (if bytes_eq found.0 (codes "record") then record_from found.1 else None)))))))))

-- clap finds no fault
abbrev pub are_right : Kinds → Bool
are_right [] = true
are_right (kind ∷ kinds) = false

-- the request of the words, if they are right
unfoldable pub asked_of : List Text → Option Request
asked_of words = if are_right (fault_of soroban_app words) then asked_from (subcommand_of soroban_app words) else None
