use Rattle.std.proofs.Common.{◌+◌, ◌≤◌, arith, rules}
use Rattle.value_types.specs.Datum.{size, data_size, pairs_size}
use Rattle.value_types.specs.Views.{datum, datums, datum_pairs}
use Rattle.value_types.proofs.Lemmas.{pair_size_at, size_at}
use Rattle.auth_record.proofs.Bounding.{IsGood, IsGoodPair, row_more, row_whole, items_bounded, entries_bounded, both_good}
use Rattle.auth_record.proofs.bounded.+bounded.Goals as goal

pub items_are_bounded-is_bounded-good-requires : goal.items_are_bounded-is_bounded-good-requires
items_are_bounded-is_bounded-good-requires t c =
    let small : size (datum c.item-item.result) ≤ data_size (datums c.args.items.now) = rw c.item-item.is (size_at c.args.items.now c.loop-item.item-index _ c.loop-item-test.true) in
    (omega (arith, small, c.decreases), tt)

pub items_are_bounded-loop-item-preserved : goal.items_are_bounded-loop-item-preserved
items_are_bounded-loop-item-preserved t c =
    row_more IsGood c.args.items.now c.loop-item.item-index c.item-item.result c.loop-item-test.true c.item-item.is c.loop-item.invariant (c.is_bounded-good.ensures (search rules))

pub items_are_bounded-returns : goal.items_are_bounded-returns
items_are_bounded-returns t c _ = items_bounded c.args.items.now (omega arith) (row_whole IsGood c.args.items.now c.loop-item.item-index (omega arith) c.loop-item.invariant)

pub entries_are_bounded-is_bounded-key-requires : goal.entries_are_bounded-is_bounded-key-requires
entries_are_bounded-is_bounded-key-requires t c =
    let small : size (datum c.entry-item.result.key) + size (datum c.entry-item.result.val) ≤ pairs_size (datum_pairs c.args.entries.now) = rw c.entry-item.is (pair_size_at c.args.entries.now c.loop-entry.entry-index _ c.loop-entry-test.true) in
    (omega (arith, small, c.decreases), tt)

pub entries_are_bounded-is_bounded-val-requires : goal.entries_are_bounded-is_bounded-val-requires
entries_are_bounded-is_bounded-val-requires t c =
    let small : size (datum c.entry-item.result.key) + size (datum c.entry-item.result.val) ≤ pairs_size (datum_pairs c.args.entries.now) = rw c.entry-item.is (pair_size_at c.args.entries.now c.loop-entry.entry-index _ c.loop-entry-test.true) in
    (omega (arith, small, c.decreases), tt)

pub entries_are_bounded-loop-entry-preserved : goal.entries_are_bounded-loop-entry-preserved
entries_are_bounded-loop-entry-preserved t c =
    row_more IsGoodPair c.args.entries.now c.loop-entry.entry-index c.entry-item.result c.loop-entry-test.true c.entry-item.is c.loop-entry.invariant
    (both_good c.entry-item.result c.is_bounded-key.result c.is_bounded-val.result c.is_bounded-key.ensures c.is_bounded-val.ensures (search rules))

pub entries_are_bounded-returns : goal.entries_are_bounded-returns
entries_are_bounded-returns t c _ = entries_bounded c.args.entries.now (omega arith) (row_whole IsGoodPair c.args.entries.now c.loop-entry.entry-index (omega arith) c.loop-entry.invariant)
