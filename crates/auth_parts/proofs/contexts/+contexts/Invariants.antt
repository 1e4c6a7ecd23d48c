use Rattle.std.proofs.Common.{◌≡◌, ◌+◌, ◌*◌, ◌++◌, take}
use Rattle.value_types.specs.Views.{datums}
use Rattle.auth_types.specs.Tree.{size, row_size, trees_of}
use Rattle.auth_types.specs.Views.{tree_of, forest_of}
use Rattle.call_spec.specs.Contexts.{all_contexts_of}
use Rattle.auth_parts.proofs.contexts.+contexts.Given as goal

abbrev pub invariant-add_all_contexts-loop-invocation : goal.invariant-add_all_contexts-loop-invocation
invariant-add_all_contexts-loop-invocation l = datums l.out.items ≡ datums l.initial.out.items ++ all_contexts_of (trees_of (forest_of (take l.invocation-index l.invocations)))

abbrev pub decreases-add_contexts : goal.decreases-add_contexts
decreases-add_contexts l = 2 * size (tree_of l.invocation.now)

abbrev pub decreases-add_all_contexts : goal.decreases-add_all_contexts
decreases-add_all_contexts l = 2 * row_size (forest_of l.invocations.now) + 1
