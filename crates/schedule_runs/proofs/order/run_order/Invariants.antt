use Rattle.std.specs.List.{fold}
use Rattle.std.proofs.Common.{◌≡◌, All, take}
use Rattle.stage_runs.specs.Orders.{move_next}
use Rattle.apply_spec.specs.Enforced.{enforced}
use Rattle.schedule_runs.specs.Lanes.{on_lanes, IsLane}
use Rattle.schedule_runs.proofs.order.run_order.Given as goal

abbrev pub invariant-loop-number : goal.invariant-loop-number
invariant-loop-number l = record {
  run : on_lanes l.ledger.entries l.lanes ≡ fold (move_next (enforced l.header l.verdicts)) (on_lanes l.initial.ledger.entries l.initial.lanes) (take l.number-index l.order);
  fits : All IsLane l.lanes;
}
