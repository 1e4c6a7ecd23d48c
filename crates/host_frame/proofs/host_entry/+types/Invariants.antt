use Rattle.std.proofs.Common.{◌≡◌, ◌+◌, ◌*◌, drop}
use Rattle.value_types.specs.Datum.{size, data_size, pairs_size, items_of, members_of}
use Rattle.value_types.specs.Views.{datum, datums, datum_pairs}
use Rattle.host_spec.specs.Hosted.{items_have_host_types, members_have_host_types}
use Rattle.host_frame.proofs.host_entry.+types.Given as goal

abbrev pub decreases-has_host_types : goal.decreases-has_host_types
decreases-has_host_types l = 2 * size (datum l.value.now)

abbrev pub decreases-items_have_host_types : goal.decreases-items_have_host_types
decreases-items_have_host_types l = 2 * data_size (datums l.items.now) + 1

abbrev pub decreases-entries_have_host_types : goal.decreases-entries_have_host_types
decreases-entries_have_host_types l = 2 * pairs_size (datum_pairs l.entries.now) + 1

abbrev pub invariant-items_have_host_types-loop-item : goal.invariant-items_have_host_types-loop-item
invariant-items_have_host_types-loop-item l = items_have_host_types (items_of (datums l.items)) ≡ items_have_host_types (items_of (datums (drop l.item-index l.items)))

abbrev pub invariant-entries_have_host_types-loop-entry : goal.invariant-entries_have_host_types-loop-entry
invariant-entries_have_host_types-loop-entry l = members_have_host_types (members_of (datum_pairs l.entries)) ≡ members_have_host_types (members_of (datum_pairs (drop l.entry-index l.entries)))
