use Rattle.std.proofs.Common.{◌≡◌, ◌++◌, All, map, take}
use Rattle.stage_runs.specs.Orders.{lane_of}
use Rattle.schedule_runs.specs.Lanes.{lane_in, clusters_in, IsLane}
use Rattle.schedule_runs.proofs.lane.push_lanes.Given as goal

abbrev pub invariant-loop-cluster : goal.invariant-loop-cluster
invariant-loop-cluster l = record {
  lanes : map lane_in l.lanes.items ≡ map lane_in l.initial.lanes.items ++ map (λ c. lane_of c.envelopes) (take l.cluster-index l.clusters);
  clusters : clusters_in l.lanes.items ≡ clusters_in l.initial.lanes.items ++ map (λ c. c.envelopes) (take l.cluster-index l.clusters);
  fits : All IsLane l.lanes.items;
}
