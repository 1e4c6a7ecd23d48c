use Rattle.std.proofs.Common.{◌+◌, ◌*◌, take}
use Rattle.std.specs.List.{AllByRecursion}
use Rattle.value_types.specs.Datum.{size, data_size, pairs_size}
use Rattle.value_types.specs.Views.{datum, datums, datum_pairs}
use Rattle.auth_record.proofs.Bounding.{IsGood, IsGoodPair}
use Rattle.auth_record.proofs.bounded.+bounded.Given as goal

abbrev pub decreases-is_bounded : goal.decreases-is_bounded
decreases-is_bounded l = 2 * size (datum l.value.now)

abbrev pub decreases-items_are_bounded : goal.decreases-items_are_bounded
decreases-items_are_bounded l = 2 * data_size (datums l.items.now) + 1

abbrev pub decreases-entries_are_bounded : goal.decreases-entries_are_bounded
decreases-entries_are_bounded l = 2 * pairs_size (datum_pairs l.entries.now) + 1

abbrev pub invariant-items_are_bounded-loop-item : goal.invariant-items_are_bounded-loop-item
invariant-items_are_bounded-loop-item l = AllByRecursion IsGood (take l.item-index l.items)

abbrev pub invariant-entries_are_bounded-loop-entry : goal.invariant-entries_are_bounded-loop-entry
invariant-entries_are_bounded-loop-entry l = AllByRecursion IsGoodPair (take l.entry-index l.entries)
