use Rattle.std.proofs.Common.{◌≡◌, ◌+◌, ◌*◌, take}
use Rattle.value_paths.proofs.comparing.+same.Given as goal

abbrev pub decreases-same_items : goal.decreases-same_items
decreases-same_items l = 3 * l.deepest + 1

abbrev pub decreases-same_entries : goal.decreases-same_entries
decreases-same_entries l = 3 * l.deepest + 1

abbrev pub decreases-same_values : goal.decreases-same_values
decreases-same_values l = 3 * l.deepest

abbrev pub invariant-same_items-loop-i : goal.invariant-same_items-loop-i
invariant-same_items-loop-i l = take l.i l.one ≡ take l.i l.other

abbrev pub invariant-same_entries-loop-i : goal.invariant-same_entries-loop-i
invariant-same_entries-loop-i l = take l.i l.one ≡ take l.i l.other

abbrev pub decreases-same_vecs : goal.decreases-same_vecs
decreases-same_vecs l = 3 * l.deepest + 2

abbrev pub decreases-same_maps : goal.decreases-same_maps
decreases-same_maps l = 3 * l.deepest + 2
