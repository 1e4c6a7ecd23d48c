use Rattle.std.proofs.Common.{◌∙◌, get_or, refl, arith}
use Rattle.schedule_runs.proofs.Counting.{all_next, count_at, count_next, counts_none}
use Rattle.schedule_runs.proofs.complete.count_numbers.Goals as goal

pub loop-number-init : goal.loop-number-init
loop-number-init c = record {
  counts = c.in_ok-counts.ensures.items_if_clones_equal (λ y h. h) ∙ counts_none 0 c.args.clusters;
  all = refl;
}

pub overflow_add-index_mut : goal.overflow_add-index_mut
overflow_add-index_mut c =
    let few = count_at c.args.clusters c.loop-number.number-index (get_or c.args.order.now c.loop-number.number-index 0) c.index_mut.result.now c.args.order.now c.loop-number.counts.items
    c.loop-number-test.true c.if-number-clusters.false c.loop-number.invariant.counts c.index_mut.ensures.value in
    omega arith

pub loop-number-preserved : goal.loop-number-preserved
loop-number-preserved c = record {
  counts = count_next c.args.clusters c.loop-number.number-index (get_or c.args.order.now c.loop-number.number-index 0) c.index_mut.result.now c.args.order.now c.loop-number.counts.items
      c.loop-number-test.true refl c.if-number-clusters.false c.loop-number.invariant.counts c.index_mut.ensures.value;
  all = all_next c.args.clusters c.loop-number.number-index c.args.order.now c.loop-number-test.true c.if-number-clusters.false c.loop-number.invariant.all;
}
