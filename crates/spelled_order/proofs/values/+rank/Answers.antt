use Rattle.std.proofs.Common.{◌+◌, ◌<◌, ◌≤◌, length, arith}
use Rattle.std.specs.declared.cmp.Ordering.TheVariants.{Equal}
use Rattle.value_types.specs.Datum.{size, data_size, pairs_size}
use Rattle.value_types.specs.Views.{datum, datums, datum_pair, datum_pairs}
use Rattle.value_types.proofs.Lemmas.{pair_size_at, size_at}
use Rattle.spelled_order.specs.Ranked.{ranked_of, ranked_pair}
use Rattle.spelled_order.proofs.Rows.{row_unequal, row_equal, as_data, as_pairs}
use Rattle.spelled_order.proofs.values.+rank.Goals as goal

pub cmp_row-cmp_item-requires : goal.cmp_row-cmp_item-requires
cmp_row-cmp_item-requires t c =
    let small : size (datum c.index-a-i.result) ≤ data_size (datums c.args.a.now) = rw c.index-a-i.is (size_at c.args.a.now c.loop-i.i _ c.loop-i-test.true) in
    (omega (arith, small, c.decreases), tt)

pub cmp_row-returns-in_default : goal.cmp_row-returns-in_default
cmp_row-returns-in_default t c =
    let within : c.loop-i.i < length c.args.b.now = omega (arith, c.requires, c.loop-i-test.true) in
    row_unequal ranked_of datum c.args.a.now c.args.b.now c.loop-i.i c.index-a-i.result c.index-b-i.result c.cmp_item.result c.loop-i-test.true within c.index-a-i.is c.index-b-i.is
    c.loop-i.invariant (as_data c.index-a-i.result c.index-b-i.result c.cmp_item.result c.cmp_item.ensures) c.in_default.not-Equal

pub cmp_row-loop-i-preserved : goal.cmp_row-loop-i-preserved
cmp_row-loop-i-preserved t c =
    let within : c.loop-i.i < length c.args.b.now = omega (arith, c.requires, c.loop-i-test.true) in
    row_equal ranked_of datum c.args.a.now c.args.b.now c.loop-i.i c.index-a-i.result c.index-b-i.result c.loop-i-test.true within c.index-a-i.is c.index-b-i.is
    c.loop-i.invariant (as_data c.index-a-i.result c.index-b-i.result Equal c.in-Equal.ensures)

pub cmp_pair_row-cmp_entry-requires : goal.cmp_pair_row-cmp_entry-requires
cmp_pair_row-cmp_entry-requires t c =
    let small : size (datum c.index-a-i.result.key) + size (datum c.index-a-i.result.val) ≤ pairs_size (datum_pairs c.args.a.now) = rw c.index-a-i.is (pair_size_at c.args.a.now c.loop-i.i _ c.loop-i-test.true) in
    (omega (arith, small, c.decreases), tt)

pub cmp_pair_row-returns-in_default : goal.cmp_pair_row-returns-in_default
cmp_pair_row-returns-in_default t c =
    let within : c.loop-i.i < length c.args.b.now = omega (arith, c.requires, c.loop-i-test.true) in
    row_unequal ranked_pair datum_pair c.args.a.now c.args.b.now c.loop-i.i c.index-a-i.result c.index-b-i.result c.cmp_entry.result c.loop-i-test.true within c.index-a-i.is c.index-b-i.is
    c.loop-i.invariant (as_pairs c.index-a-i.result c.index-b-i.result c.cmp_entry.result c.cmp_entry.ensures) c.in_default.not-Equal

pub cmp_pair_row-loop-i-preserved : goal.cmp_pair_row-loop-i-preserved
cmp_pair_row-loop-i-preserved t c =
    let within : c.loop-i.i < length c.args.b.now = omega (arith, c.requires, c.loop-i-test.true) in
    row_equal ranked_pair datum_pair c.args.a.now c.args.b.now c.loop-i.i c.index-a-i.result c.index-b-i.result c.loop-i-test.true within c.index-a-i.is c.index-b-i.is
    c.loop-i.invariant (as_pairs c.index-a-i.result c.index-b-i.result Equal c.in-Equal.ensures)
