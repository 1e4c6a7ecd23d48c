-- The change log of transactions, stages and sets (own).
use Rattle.std.specs.Prelude.{ℕ, List, [], ◌∷◌, map}
use Rattle.std.specs.List.{flat_map}
use Rattle.ledger_types.specs.declared.header.Header.{Header}
use Rattle.ledger_types.specs.declared.verdicts.Verdicts.{Verdicts}
use Rattle.tx_xdr.specs.Stages.{stages_of}
use Rattle.tx_xdr.specs.declared.set.TxSet.{TxSet}
use Rattle.stage_runs.specs.Maps.{LedgerMap}
use Rattle.stage_runs.specs.Transactions.{Step}
use Rattle.stage_runs.specs.Runs.{RunState, Stage, start, run_clusters, run_stage, clusters_in}
use Rattle.ledger_parts.specs.Notes.{Note, noted_in_stage}
use Rattle.change_log.specs.Log.{Changes}
use Rattle.change_log.specs.Groups.{changes}
use Rattle.change_log.specs.declared.log.LoggedStage.{LoggedStage}
use Rattle.change_log.specs.declared.log.Log.{Log}
use Rattle.apply_spec.specs.Enforced.{enforced}
use Rattle.apply_spec.specs.Runs.{running_header}

-- What a transaction changes: the change groups of the map before its pending extensions are put in, and of the map after it.
abbrev pub changed_by : Note Changes
changed_by m m' tx = changes m m'

-- The log of a stage: what each transaction changes, cluster after cluster, and what the stage's end changes.
abbrev pub logged_stage : Step → RunState → Stage → LoggedStage
logged_stage step running clusters = record {
  transactions = flat_map (λ (lists : List Changes). lists) (noted_in_stage step changed_by running clusters);
  end = changes (run_clusters step running clusters).entries (run_stage step running clusters).entries;
}

-- the logs of stages in order, each on what the stages before it leave
abbrev pub logged_stages : Step → RunState → List Stage → List LoggedStage
logged_stages step running [] = []
logged_stages step running (clusters ∷ stages) =
    logged_stage step running clusters ∷ logged_stages step (run_stage step running clusters) stages

-- the log of stages over a ledger
abbrev pub logged_over : Header → Verdicts → LedgerMap → List Stage → ℕ → Log
logged_over header verdicts entries stages close_time = record {
  old_seq = header.seq;
  old_close_time = header.close_time;
  new_close_time = close_time;
  stages = logged_stages (enforced (running_header header close_time) verdicts) (start entries) stages;
}

-- the log of a set over a ledger
abbrev pub logged_set : Header → Verdicts → LedgerMap → TxSet → ℕ → Log
logged_set header verdicts entries set close_time =
    logged_over header verdicts entries (map clusters_in (stages_of set)) close_time
