use Rattle.std.specs.List.{flat_map}
use Rattle.std.proofs.Common.{◌≡◌, All, map}
use Rattle.set_steps.specs.State.{pending_of, reports_of, IsKeyed}
use Rattle.schedule_runs.specs.Lanes.{lane_in}
use Rattle.schedule_runs.proofs.order.close.Given as goal

abbrev pub invariant-loop-lane : goal.invariant-loop-lane
invariant-loop-lane l = record {
  pending : pending_of l.done.items ≡ flat_map (λ x. x.pending) (map lane_in l.yielded);
  reports : reports_of l.done.items ≡ flat_map (λ x. x.results) (map lane_in l.yielded);
  keyed : All IsKeyed l.done.items;
}
