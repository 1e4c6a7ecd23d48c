-- The jobs of a stage: each cluster with its part, and what it left (own).
use Rattle.std.specs.Prelude.{◌≡◌, Bool, true, false, List, [], ◌∷◌, None, Ok, IfOk}
use Rattle.std.specs.List.{AllByRecursion}
use Rattle.std.specs.FinMap.{get, retain_keys}
use Rattle.change_log.specs.Log.{Changes}
use Rattle.ledger_parts.specs.Notes.{noted_in, shown_note}
use Rattle.ledger_parts.specs.Shown.{is_read, shown, shown_step, PassesRead}
use Rattle.stage_runs.specs.Maps.{Bytes, LedgerKey, LedgerMap, laid_over}
use Rattle.stage_runs.specs.Transactions.{Step}
use Rattle.stage_runs.specs.Runs.{Cluster, RunState, run_cluster, start, writes_in}
use Rattle.set_steps.specs.LoggedLists.{written_sides, AddsLists}
use Rattle.set_steps.specs.Spelled.{AreEnvelopes}
use Rattle.set_steps.specs.State.{done_in, IsKeyed}
use Rattle.set_steps.specs.declared.running.ClusterDone.{ClusterDone}
use Rattle.set_steps.specs.declared.job.Job.{Job}

-- the transactions of a job
abbrev pub cluster_of : Job → Cluster
cluster_of job = job.envelopes.now

-- the entries that a job owns
abbrev pub own_of : Job → LedgerMap
own_of job = job.own

-- The job has only entries at keys that the cluster declares read-write, and nothing is logged yet.
pub record IsCut (job : Job) : Type 0 where
  pub owned : (q : Bytes) → writes_in (cluster_of job) q ≡ false → get (own_of job) q ≡ None
  pub fits : AreEnvelopes (cluster_of job)
  pub unlogged : job.log.items ≡ []

-- The cluster ran on its own entries, and saw besides them only the lent ones at some keys. All keys that it declares read-only
-- are among them. What its transactions changed was added to the log, if one is kept.
pub record IsRunOn (step : Step) (logs : Bool) (lent : LedgerMap) (cluster : Cluster) (own : LedgerMap) (ran : RunState)
    (old new : List Changes) : Type 0 where
  pub keys : List LedgerKey
  pub reads : PassesRead (is_read keys) cluster
  pub run : ran ≡ run_cluster (shown_step (shown keys lent) step) own cluster
  pub log : AddsLists logs
      (noted_in (shown_step (shown keys lent) step) (shown_note (shown keys lent) written_sides) (start own) cluster) old new

-- The job's cluster ran on the job's entries, unless memory ran out.
pub record IsRun (step : Step) (logs : Bool) (lent : LedgerMap) (before after : Job) : Type 0 where
  pub same : cluster_of after ≡ cluster_of before
  pub run : IfOk after.done (λ d. IsRunOn step logs lent (cluster_of before) (own_of before) (done_in (own_of after) d)
      before.log.items after.log.items)
  pub keyed : IfOk after.done IsKeyed

-- the map after what a job's part owns at the keys of its cluster came back
abbrev pub back : LedgerMap → Job → LedgerMap
back entries job = laid_over (retain_keys (own_of job) (writes_in (cluster_of job))) entries

-- the jobs left these beside their entries, and memory did not run out in them
abbrev pub AreDone : List Job → List ClusterDone → Type 0
AreDone [] [] = Unit {0}
AreDone [] (d ∷ ds) = ⊥
AreDone (j ∷ js) [] = ⊥
AreDone (j ∷ js) (d ∷ ds) = (j.done ≡ Ok d) × AreDone js ds

-- nothing that the cluster declares read-write is lent
abbrev pub IsMovedOf : LedgerMap → Cluster → Type 0
IsMovedOf lent cluster = (q : Bytes) → writes_in cluster q ≡ true → get lent q ≡ None

-- nothing that a job's cluster declares read-write is lent
abbrev pub AreMoved : LedgerMap → List Job → Type 0
AreMoved lent jobs = AllByRecursion (λ job. IsMovedOf lent (cluster_of job)) jobs
