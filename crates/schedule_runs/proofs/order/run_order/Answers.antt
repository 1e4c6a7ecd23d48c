use Rattle.std.proofs.Common.{get_or, refl, ap}
use Rattle.std.proofs.lemmas.List.Elements.{All-set}
use Rattle.apply_spec.specs.Enforced.{enforced}
use Rattle.schedule_runs.specs.Lanes.{on_lanes, IsLane}
use Rattle.schedule_runs.proofs.Moving.{order_moves, order_rests}
use Rattle.schedule_runs.proofs.order.run_order.Goals as goal
use Rattle.schedule_runs.proofs.order.run_order.Goals.{then-index-lanes+in_ok-run_next, else-index-lanes}

pub loop-number-preserved : goal.loop-number-preserved
loop-number-preserved c =
    let step = enforced c.args.header.now c.args.verdicts.now in
    let first = on_lanes c.args.ledger.now.entries c.args.lanes.now in
    let number = get_or c.args.order.now c.loop-number.number-index 0 in
    elim c.if-index-lanes.branch [
      | then-index-lanes+in_ok-run_next w ↦ record {
        run = rw (w.ledger-is, w.lanes-is) (order_moves step first c.args.order.now c.loop-number.number-index number c.loop-number.ledger.entries w.run_next.new.ledger.entries c.loop-number.lanes (get_or c.loop-number.lanes number w.index-lanes-index.result) w.run_next.new.lane
            c.loop-number-test.true refl w.if-index-lanes.true (ap (get_or c.loop-number.lanes number) w.index-lanes-index.is) c.loop-number.invariant.run w.in_ok-run_next.ensures.run);
        fits = rw w.lanes-is (All-set IsLane c.loop-number.lanes number w.run_next.new.lane w.in_ok-run_next.ensures.fits c.loop-number.invariant.fits);
      }
      | else-index-lanes w ↦ record {
        run = rw (w.ledger-is, w.lanes-is) (order_rests step first c.args.order.now c.loop-number.number-index number c.loop-number.ledger.entries c.loop-number.lanes
            c.loop-number-test.true refl w.if-index-lanes.false c.loop-number.invariant.run);
        fits = rw w.lanes-is c.loop-number.invariant.fits;
      }
    ]
