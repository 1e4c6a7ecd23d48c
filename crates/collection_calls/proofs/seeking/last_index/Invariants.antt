use Rattle.std.proofs.Common.{◌≡◌, ◌≤◌, length, take}
use Rattle.value_types.specs.Views.{datum, datums}
use Rattle.host_spec.specs.VecRows.{last_index_of}
use Rattle.collection_calls.proofs.seeking.last_index.Given as goal

abbrev pub invariant-loop-end : goal.invariant-loop-end
invariant-loop-end l = (l.end ≤ length l.items) × (last_index_of (datum l.value) (datums l.items) ≡ last_index_of (datum l.value) (datums (take l.end l.items)))

abbrev pub decreases-loop-end : goal.decreases-loop-end
decreases-loop-end l = l.end
