use Rattle.std.proofs.Common.{◌+◌, ◌*◌, drop}
use Rattle.std.specs.List.{flat_map}
use Rattle.value_types.specs.Datum.{size, data_size, pairs_size, vec_size, storage_size}
use Rattle.value_types.specs.Views.{datum, datums, datum_pairs}
use Rattle.spelled_order.specs.Ranked.{ranked_of, ranked_pair}
use Rattle.spelled_order.proofs.Rows.{Carries}
use Rattle.spelled_order.proofs.values.+rank.Given as goal

abbrev pub decreases-cmp_value : goal.decreases-cmp_value
decreases-cmp_value l = 9 * size (datum l.a.now) + 1

abbrev pub decreases-cmp_body : goal.decreases-cmp_body
decreases-cmp_body l = 9 * size (datum l.a.now)

abbrev pub decreases-cmp_vecs : goal.decreases-cmp_vecs
decreases-cmp_vecs l = 9 * vec_size l.a.now + 6

abbrev pub decreases-cmp_maps : goal.decreases-cmp_maps
decreases-cmp_maps l = 9 * storage_size l.a.now + 6

abbrev pub decreases-cmp_items : goal.decreases-cmp_items
decreases-cmp_items l = 9 * data_size (datums l.a.now) + 5

abbrev pub decreases-cmp_pairs : goal.decreases-cmp_pairs
decreases-cmp_pairs l = 9 * pairs_size (datum_pairs l.a.now) + 5

abbrev pub decreases-cmp_row : goal.decreases-cmp_row
decreases-cmp_row l = 9 * data_size (datums l.a.now) + 4

abbrev pub decreases-cmp_item : goal.decreases-cmp_item
decreases-cmp_item l = 9 * size (datum l.a.now) + 2

abbrev pub decreases-cmp_pair_row : goal.decreases-cmp_pair_row
decreases-cmp_pair_row l = 9 * pairs_size (datum_pairs l.a.now) + 4

abbrev pub decreases-cmp_entry : goal.decreases-cmp_entry
decreases-cmp_entry l = 9 * (size (datum l.a.now.key) + size (datum l.a.now.val)) + 3

abbrev pub decreases-cmp_instances : goal.decreases-cmp_instances
decreases-cmp_instances l = 9 * storage_size l.a.now.storage + 7

abbrev pub invariant-cmp_row-loop-i : goal.invariant-cmp_row-loop-i
invariant-cmp_row-loop-i l =
    Carries (flat_map ranked_of (datums (drop l.i l.a))) (flat_map ranked_of (datums (drop l.i l.b))) (flat_map ranked_of (datums l.a)) (flat_map ranked_of (datums l.b))

abbrev pub invariant-cmp_pair_row-loop-i : goal.invariant-cmp_pair_row-loop-i
invariant-cmp_pair_row-loop-i l =
    Carries (flat_map ranked_pair (datum_pairs (drop l.i l.a))) (flat_map ranked_pair (datum_pairs (drop l.i l.b))) (flat_map ranked_pair (datum_pairs l.a)) (flat_map ranked_pair (datum_pairs l.b))
