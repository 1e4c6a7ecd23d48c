use Rattle.std.proofs.Common.{◌+◌, ◌≤◌, arith}
use Rattle.value_types.specs.Datum.{size, data_size, pairs_size}
use Rattle.value_types.specs.Views.{datum, datums, datum_pairs}
use Rattle.value_types.proofs.Lemmas.{pair_size_at, size_at}
use Rattle.host_frame.proofs.host_entry.+types.Goals as goal

pub items_have_host_types-has_host_types-requires : goal.items_have_host_types-has_host_types-requires
items_have_host_types-has_host_types-requires t c =
    let small : size (datum c.item-item.result) ≤ data_size (datums c.args.items.now) = rw c.item-item.is (size_at c.args.items.now c.loop-item.item-index _ c.loop-item-test.true) in
    (omega (arith, small, c.decreases), tt)

pub entries_have_host_types-has_host_types-key-requires : goal.entries_have_host_types-has_host_types-key-requires
entries_have_host_types-has_host_types-key-requires t c =
    let small : size (datum c.entry-item.result.key) + size (datum c.entry-item.result.val) ≤ pairs_size (datum_pairs c.args.entries.now) = rw c.entry-item.is (pair_size_at c.args.entries.now c.loop-entry.entry-index _ c.loop-entry-test.true) in
    (omega (arith, small, c.decreases), tt)

pub entries_have_host_types-has_host_types-val-requires : goal.entries_have_host_types-has_host_types-val-requires
entries_have_host_types-has_host_types-val-requires t c =
    let small : size (datum c.entry-item.result.key) + size (datum c.entry-item.result.val) ≤ pairs_size (datum_pairs c.args.entries.now) = rw c.entry-item.is (pair_size_at c.args.entries.now c.loop-entry.entry-index _ c.loop-entry-test.true) in
    (omega (arith, small, c.decreases), tt)
