use Rattle.std.proofs.Common.{◌≤◌, arith}
use Rattle.value_types.specs.Views.{datums}
use Rattle.auth_types.specs.Tree.{size, row_size}
use Rattle.auth_types.specs.Views.{tree_of, forest_of}
use Rattle.auth_types.proofs.Lemmas.{size_at}
use Rattle.auth_parts.proofs.Rows.{row_more}
use Rattle.auth_parts.proofs.contexts.+contexts.Goals as goal

pub add_all_contexts-add_contexts-requires : goal.add_all_contexts-add_contexts-requires
add_all_contexts-add_contexts-requires t c =
    let small : size (tree_of c.invocation-item.result) ≤ row_size (forest_of c.args.invocations.now) = rw c.invocation-item.is (size_at c.args.invocations.now c.loop-invocation.invocation-index _ c.loop-invocation-test.true) in
    (omega (arith, small, c.decreases), tt)

pub add_all_contexts-loop-invocation-preserved : goal.add_all_contexts-loop-invocation-preserved
add_all_contexts-loop-invocation-preserved t c =
    row_more (datums c.args.out.now.items) (datums c.loop-invocation.out.items) (datums c.add_contexts.new.out.items) c.args.invocations.now c.loop-invocation.invocation-index c.invocation-item.result c.loop-invocation-test.true c.invocation-item.is
    c.loop-invocation.invariant c.in_ok-add_contexts.ensures
