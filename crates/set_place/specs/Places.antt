-- The transaction at a place of a set, and the map that it meets (own).
use Rattle.std.specs.Prelude.{ℕ, ◌+◌, List, [], Option, length, map, take, get_or, option_map, option_and_then}
use Rattle.std.specs.List.{flat_map, slice_get}
use Rattle.ledger_types.specs.declared.header.Header.{Header}
use Rattle.ledger_types.specs.declared.verdicts.Verdicts.{Verdicts}
use Rattle.tx_xdr.specs.Stages.{stages_of}
use Rattle.tx_xdr.specs.declared.set.TxSet.{TxSet}
use Rattle.stage_runs.specs.Maps.{LedgerMap}
use Rattle.stage_runs.specs.Transactions.{Envelope, Step}
use Rattle.stage_runs.specs.Runs.{Cluster, Stage, RunState, clusters_in, start, before, run_cluster, run_clusters, run_set}
use Rattle.apply_spec.specs.Enforced.{enforced}
use Rattle.apply_spec.specs.Runs.{running_header}
use Rattle.set_place.specs.declared.place.Place.{Place}

-- ---- places

-- the transaction at a place
abbrev pub tx_at : List Stage → Place → Option Envelope
tx_at stages place =
    option_and_then
    (λ clusters. option_and_then (λ cluster. slice_get cluster place.transaction) (slice_get clusters place.cluster))
    (slice_get stages place.stage)

-- the transactions of clusters, in their order
abbrev pub txs_of : Stage → List Envelope
txs_of clusters = flat_map (λ cluster. cluster) clusters

-- How many transactions stand before a place: those of the stages before, of the clusters before, and those before it in its
-- cluster.
abbrev pub count_before : List Stage → Place → ℕ
count_before stages place =
    length (flat_map txs_of (take place.stage stages))
    + (length (txs_of (take place.cluster (get_or stages place.stage []))) + place.transaction)

-- ---- what a transaction meets

-- a transaction, and the map of all entries that it runs on
pub record Met : Type 0 where
  pub entries : LedgerMap
  pub tx : Envelope

abbrev pub met_on : LedgerMap → Envelope → Met
met_on entries tx = record { entries = entries; tx = tx }

-- A transaction that comes next in its cluster: the pending extensions of the keys that it declares read-write are put in.
abbrev pub met_next : RunState → Envelope → Met
met_next running tx = met_on (before tx running).entries tx

-- the transaction at an index of a cluster, after those before it
abbrev pub met_in_cluster : Step → LedgerMap → ℕ → Cluster → Option Met
met_in_cluster step entries index cluster =
    option_map (met_next (run_cluster step entries (take index cluster))) (slice_get cluster index)

-- that of the cluster with this number, after the clusters before it
abbrev pub met_in_stage : Step → RunState → ℕ → ℕ → Stage → Option Met
met_in_stage step running number index clusters =
    option_and_then (met_in_cluster step (run_clusters step running (take number clusters)).entries index)
    (slice_get clusters number)

-- that at a place of stages, after the stages before it
abbrev pub met_at : Step → RunState → List Stage → Place → Option Met
met_at step running stages place =
    option_and_then (met_in_stage step (run_set step running (take place.stage stages)) place.cluster place.transaction)
    (slice_get stages place.stage)

-- that at a place of a set over a ledger
abbrev pub met_in : Header → Verdicts → LedgerMap → TxSet → ℕ → Place → Option Met
met_in header verdicts entries set close_time place =
    met_at (enforced (running_header header close_time) verdicts) (start entries) (map clusters_in (stages_of set)) place
