-- What is noted of each transaction of a run, beside the run's state (own). A log of changes, for example, notes what each
-- transaction changed. The laws say that clusters on parts of a map note what they note in the stage in order.
use Rattle.std.specs.Prelude.{◌≡◌, Bool, true, false, None, List, [], ◌∷◌}
use Rattle.std.specs.FinMap.{get}
use Rattle.stage_runs.specs.Maps.{Bytes, LedgerMap, AgreeOn, laid_over}
use Rattle.stage_runs.specs.Transactions.{Envelope, Step, writes, declares, IsFramed}
use Rattle.stage_runs.specs.Runs.{Cluster, Stage, RunState, start, run_transaction, run_next_cluster, writes_in, declares_in}
use Rattle.stage_runs.specs.Runs.{HasNoConflict}
use Rattle.ledger_parts.specs.Shown.{shown_step, shown_with, PassesRead}
use Rattle.ledger_parts.specs.Cut.{left_of, cut_from}

-- What is noted of a transaction, by the map before it and the map after it. The map before it has none of the pending
-- extensions yet that are put in for this transaction.
abbrev pub Note : Type 0 → Type 0
Note K = LedgerMap → LedgerMap → Envelope → K

-- Two maps have the same at each key that the transaction does not declare read-write.
abbrev pub AgreeElsewhere : Envelope → LedgerMap → LedgerMap → Type 0
AgreeElsewhere tx m m' = (q : Bytes) → writes tx q ≡ false → get m q ≡ get m' q

-- What is noted depends on what the maps before and after have at the transaction's declared keys alone, if these two maps
-- differ only at keys that it declares read-write, as in each run. For example, a note may tell all keys at which they differ.
abbrev pub IsFramedNote : {K : Type 0} → Note K → Type 0
IsFramedNote note = (m m' n n' : LedgerMap) (tx : Envelope) → AgreeElsewhere tx m m' → AgreeElsewhere tx n n'
    → AgreeOn (declares tx) m n → AgreeOn (declares tx) m' n'
    → note m m' tx ≡ note n n' tx

-- what is noted of the transactions of a cluster, in their order
abbrev pub noted_in : {K : Type 0} → Step → Note K → RunState → Cluster → List K
noted_in step note running [] = []
noted_in step note running (tx ∷ cluster) =
    note running.entries (run_transaction step running tx).entries tx
    ∷ noted_in step note (run_transaction step running tx) cluster

-- The same for each cluster of a stage in order, on the map after the clusters before it. Nothing is noted at the stage's end.
abbrev pub noted_in_stage : {K : Type 0} → Step → Note K → RunState → Stage → List (List K)
noted_in_stage step note running [] = []
noted_in_stage step note running (c ∷ clusters) =
    noted_in step note (start running.entries) c ∷ noted_in_stage step note (run_next_cluster step running c) clusters

-- ---- on parts

-- A cluster that changes a map of its own entries sees the map that is shown for it, as in `shown_step`. What it notes goes
-- by the shown map, too.
abbrev pub shown_note : {K : Type 0} → (LedgerMap → LedgerMap) → Note K → Note K
shown_note shown note own own' tx = note (shown own) (shown own') tx

-- what each cluster notes on its own entries, laid over those that are lent
abbrev pub noted_over : {K : Type 0} → Step → Note K → LedgerMap → List LedgerMap → Stage → List (List K)
noted_over step note lent [] clusters = []
noted_over step note lent (own ∷ owns) [] = []
noted_over step note lent (own ∷ owns) (c ∷ clusters) =
    noted_in step note (start (laid_over own lent)) c ∷ noted_over step note lent owns clusters

-- ---- laws

-- On two maps that agree on the keys that a cluster declares, it notes the same.
abbrev pub NotedFrameLaw : Type 0 → Type 0
NotedFrameLaw K = (step : Step) (note : Note K) (m n : LedgerMap) (cluster : Cluster) → IsFramed step → IsFramedNote note
    → AgreeOn (declares_in cluster) m n
    → noted_in step note (start m) cluster ≡ noted_in step note (start n) cluster

-- A cluster that runs on its own entries, and sees besides them only the lent ones at the keys that it reads, notes what it
-- notes on its own entries laid over all that is lent. None of the entries that it declares read-write is lent.
abbrev pub NotedSeenLaw : Type 0 → Type 0
NotedSeenLaw K = (step : Step) (note : Note K) (reads : Bytes → Bool) (lent own : LedgerMap) (cluster : Cluster) → IsFramed step
    → IsFramedNote note
    → PassesRead reads cluster
    → ((q : Bytes) → writes_in cluster q ≡ true → get lent q ≡ None)
    → noted_in (shown_step (shown_with reads lent) step) (shown_note (shown_with reads lent) note) (start own) cluster
    ≡ noted_in step note (start (laid_over own lent)) cluster

-- Take the entries of each cluster out of the map, cluster after cluster. In a stage without a conflict, each cluster on its
-- own entries, laid over what is left, notes what it notes in the stage in order.
abbrev pub NotedCutLaw : Type 0 → Type 0
NotedCutLaw K = (step : Step) (note : Note K) (running : RunState) (clusters : Stage) → IsFramed step → IsFramedNote note
    → HasNoConflict clusters
    → noted_over step note (left_of running.entries clusters) (cut_from running.entries clusters) clusters
    ≡ noted_in_stage step note running clusters
