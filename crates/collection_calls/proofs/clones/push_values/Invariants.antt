use Rattle.std.proofs.Common.{◌≡◌, ◌++◌, take}
use Rattle.value_types.specs.Views.{datums}
use Rattle.collection_calls.proofs.clones.push_values.Given as goal

abbrev pub invariant-loop-value : goal.invariant-loop-value
invariant-loop-value l = datums l.made.items ≡ datums l.fn.made.items ++ datums (take l.value-index l.values)
