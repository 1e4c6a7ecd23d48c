use Rattle.std.proofs.Common.{arith}
use Rattle.value_types.proofs.Growing.{members_deeper, members_larger}
use Rattle.value_types.proofs.measures.measure_entries.Goals as goal

pub loop-entry-preserved : goal.loop-entry-preserved
loop-entry-preserved c =
    let larger = members_larger c.args.entries.now c.loop-entry.entry-index c.entry-item.result c.loop-entry-test.true c.entry-item.is in
    let deeper = members_deeper c.args.entries.now c.loop-entry.entry-index c.entry-item.result c.loop-entry-test.true c.entry-item.is in
    record { xdr_size = omega (arith, c.loop-entry.invariant.xdr_size, larger); depth = omega (arith, c.loop-entry.invariant.depth, deeper) }
