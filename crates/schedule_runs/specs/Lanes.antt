-- The clusters that run by a schedule, as the code keeps them (own).
use Rattle.std.specs.Prelude.{List, [], ◌∷◌, map, take, drop}
use Rattle.ledger_spec.specs.LedgerMap.{LedgerMap}
use Rattle.stage_runs.specs.Transactions.{Envelope}
use Rattle.stage_runs.specs.Runs.{Stage}
use Rattle.stage_runs.specs.Orders as orders
use Rattle.set_steps.specs.Spelled.{AreEnvelopes}
use Rattle.schedule_runs.specs.declared.lane.Lane.{Lane}

-- the transactions that are left
abbrev pub left_in : Lane → List Envelope
left_in lane = drop lane.next lane.cluster.now

-- a cluster between two of its transactions
abbrev pub lane_in : Lane → orders.Lane
lane_in lane = record {
  ran = take lane.next lane.cluster.now;
  left = left_in lane;
  pending = lane.running.pending;
  results = lane.running.reports;
}

-- a cluster alone, on this map
abbrev pub on_lane : LedgerMap → Lane → orders.Scheduled
on_lane entries lane = record { entries = entries; lanes = lane_in lane ∷ [] }

-- the clusters of a stage, on this map
abbrev pub on_lanes : LedgerMap → List Lane → orders.Scheduled
on_lanes entries lanes = record { entries = entries; lanes = map lane_in lanes }

-- all transactions of each cluster
abbrev pub clusters_in : List Lane → Stage
clusters_in lanes = map (λ lane. lane.cluster.now) lanes

-- the transactions of the cluster are within their XDR format
abbrev pub IsLane : Lane → Type 0
IsLane lane = AreEnvelopes lane.cluster.now
