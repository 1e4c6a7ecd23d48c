use Rattle.std.proofs.Common.{arith}
use Rattle.value_types.proofs.Growing.{items_deeper, items_larger}
use Rattle.value_types.proofs.measures.measure_items.Goals as goal

pub loop-item-preserved : goal.loop-item-preserved
loop-item-preserved c =
    let larger = items_larger c.args.items.now c.loop-item.item-index c.item-item.result c.loop-item-test.true c.item-item.is in
    let deeper = items_deeper c.args.items.now c.loop-item.item-index c.item-item.result c.loop-item-test.true c.item-item.is in
    record { xdr_size = omega (arith, c.loop-item.invariant.xdr_size, larger); depth = omega (arith, c.loop-item.invariant.depth, deeper) }
