-- The laws of runs on parts (own). The effect of a transaction is a parameter, as in the laws of stages.
use Rattle.std.specs.Prelude.{◌≡◌, Bool, true, None}
use Rattle.std.specs.FinMap.{get}
use Rattle.stage_runs.specs.Maps.{Bytes, LedgerMap}
use Rattle.stage_runs.specs.Transactions.{Step, IsFramed}
use Rattle.stage_runs.specs.Runs.{Cluster, Stage, RunState, start, run_cluster, run_stage, ended, writes_in, HasNoConflict}
use Rattle.stage_runs.specs.Parts.{run_owned_all, owns_back}
use Rattle.ledger_parts.specs.Shown.{shown_step, shown_with, PassesRead}
use Rattle.ledger_parts.specs.Cut.{left_of, cut_from, runs_over}

-- A cluster that runs on its own entries, and sees besides them only the lent ones at the keys that it reads, runs as a part
-- that sees all that is lent. None of the entries that it declares read-write is lent.
abbrev pub SeenLaw : Type 0
SeenLaw =
    (step : Step) (reads : Bytes → Bool) (lent own : LedgerMap) (cluster : Cluster) → IsFramed step → PassesRead reads cluster
    → ((q : Bytes) → writes_in cluster q ≡ true → get lent q ≡ None)
    → run_cluster (shown_step (shown_with reads lent) step) own cluster ≡ run_owned_all step lent (start own) cluster

-- Take the entries of each cluster out of the map, cluster after cluster, run each cluster on its own, and put all entries back
-- before the stage ends: in a stage without a conflict this is the stage's run.
abbrev pub CutLaw : Type 0
CutLaw = (step : Step) (running : RunState) (clusters : Stage) → IsFramed step → HasNoConflict clusters
    → ended (owns_back (record running { entries = left_of running.entries clusters })
    (runs_over step (left_of running.entries clusters) (cut_from running.entries clusters) clusters))
    ≡ run_stage step running clusters
