use Rattle.std.proofs.Common.{◌≡◌, ◌+◌, ◌*◌, drop}
use Rattle.value_types.specs.Datum.{size, data_size, pairs_size, items_of, members_of}
use Rattle.value_types.specs.Views.{datum, datums, datum_pairs}
use Rattle.host_spec.specs.Hosted.{items_are_well_formed, members_are_well_formed}
use Rattle.host_frame.proofs.host_entry.+form.Given as goal

abbrev pub decreases-is_well_formed : goal.decreases-is_well_formed
decreases-is_well_formed l = 2 * size (datum l.value.now)

abbrev pub decreases-items_are_well_formed : goal.decreases-items_are_well_formed
decreases-items_are_well_formed l = 2 * data_size (datums l.items.now) + 1

abbrev pub decreases-entries_are_well_formed : goal.decreases-entries_are_well_formed
decreases-entries_are_well_formed l = 2 * pairs_size (datum_pairs l.entries.now) + 1

abbrev pub invariant-items_are_well_formed-loop-item : goal.invariant-items_are_well_formed-loop-item
invariant-items_are_well_formed-loop-item l = items_are_well_formed (items_of (datums l.items)) ≡ items_are_well_formed (items_of (datums (drop l.item-index l.items)))

abbrev pub invariant-entries_are_well_formed-loop-i : goal.invariant-entries_are_well_formed-loop-i
invariant-entries_are_well_formed-loop-i l = members_are_well_formed (members_of (datum_pairs l.entries)) ≡ members_are_well_formed (members_of (datum_pairs (drop l.i l.entries)))
