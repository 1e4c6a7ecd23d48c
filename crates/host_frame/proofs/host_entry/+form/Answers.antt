use Rattle.std.proofs.Common.{◌+◌, ◌≤◌, arith}
use Rattle.value_types.specs.Datum.{size, data_size, pairs_size}
use Rattle.value_types.specs.Views.{datum, datums, datum_pairs}
use Rattle.value_types.proofs.Lemmas.{pair_size_at, size_at}
use Rattle.host_frame.proofs.host_entry.+form.Goals as goal

pub items_are_well_formed-is_well_formed-requires : goal.items_are_well_formed-is_well_formed-requires
items_are_well_formed-is_well_formed-requires t c =
    let small : size (datum c.item-item.result) ≤ data_size (datums c.args.items.now) = rw c.item-item.is (size_at c.args.items.now c.loop-item.item-index _ c.loop-item-test.true) in
    (omega (arith, small, c.decreases), tt)

pub entries_are_well_formed-is_well_formed-key-requires : goal.entries_are_well_formed-is_well_formed-key-requires
entries_are_well_formed-is_well_formed-key-requires t c =
    let small : size (datum c.index-entries-i.result.key) + size (datum c.index-entries-i.result.val) ≤ pairs_size (datum_pairs c.args.entries.now) = rw c.index-entries-i.is (pair_size_at c.args.entries.now c.loop-i.i _ c.loop-i-test.true) in
    (omega (arith, small, c.decreases), tt)

pub entries_are_well_formed-is_well_formed-val-requires : goal.entries_are_well_formed-is_well_formed-val-requires
entries_are_well_formed-is_well_formed-val-requires t c =
    let small : size (datum c.index-entries-i.result.key) + size (datum c.index-entries-i.result.val) ≤ pairs_size (datum_pairs c.args.entries.now) = rw c.index-entries-i.is (pair_size_at c.args.entries.now c.loop-i.i _ c.loop-i-test.true) in
    (omega (arith, small, c.decreases), tt)
