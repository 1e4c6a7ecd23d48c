use Rattle.std.proofs.Common.{length, arith, ap}
use Rattle.set_build.proofs.Tallies.{one_more_fits}
use Rattle.set_build.proofs.counting.count_clusters.Goals as goal

pub overflow_add-count : goal.overflow_add-count
overflow_add-count c =
    let h = one_more_fits c.args.stages.now c.loop-stage.stage-index c.stage-item.result c.loop-stage.count (length c.as_slice.result.now) c.loop-stage-test.true c.stage-item.is c.loop-stage.invariant
    (ap length c.as_slice.ensures) in
    let few = c.requires in
    omega (arith, h, few)
