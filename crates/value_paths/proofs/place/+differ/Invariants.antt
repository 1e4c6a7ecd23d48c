use Rattle.std.proofs.Common.{◌+◌, ◌*◌}
use Rattle.value_paths.proofs.place.+differ.Given as goal

abbrev pub decreases-items_differ : goal.decreases-items_differ
decreases-items_differ l = 3 * l.steps

abbrev pub decreases-entries_differ : goal.decreases-entries_differ
decreases-entries_differ l = 3 * l.steps

abbrev pub decreases-vecs_differ : goal.decreases-vecs_differ
decreases-vecs_differ l = 3 * l.steps + 1

abbrev pub decreases-maps_differ : goal.decreases-maps_differ
decreases-maps_differ l = 3 * l.steps + 1

abbrev pub decreases-values_differ : goal.decreases-values_differ
decreases-values_differ l = 3 * l.steps + 2
