use Rattle.std.proofs.Common.{◌≤◌, arith}
use Rattle.xdr_core.specs.Sizes.{capped}
use Rattle.auth_types.specs.Tree.{size, row_size}
use Rattle.auth_types.specs.Views.{tree_of, forest_of}
use Rattle.auth_types.specs.Bytes.{IsInvocationBounded}
use Rattle.auth_types.proofs.Parts.{size_at}
use Rattle.auth_types.proofs.Rows.{bounded_at, row_size_more}
use Rattle.auth_types.proofs.writing.+size.Goals as goal

pub size_of_row-size_of_invocation-requires : goal.size_of_row-size_of_invocation-requires
size_of_row-size_of_invocation-requires t c =
    let small : size (tree_of c.item-item.result) ≤ row_size (forest_of c.args.items.now) = rw c.item-item.is (size_at c.args.items.now c.loop-item.item-index _ c.loop-item-test.true) in
    (omega (arith, small, c.decreases), tt)

pub size_of_row-loop-item-preserved : goal.size_of_row-loop-item-preserved
unfolding capped
size_of_row-loop-item-preserved t c all =
    let bounded : IsInvocationBounded c.item-item.result = rw c.item-item.is (bounded_at c.args.items.now c.loop-item.item-index _ all c.loop-item-test.true) in
    let more = row_size_more c.args.items.now c.loop-item.item-index c.item-item.result c.loop-item-test.true c.item-item.is in
    omega (arith, more, c.loop-item.invariant all, c.size_of_invocation.ensures bounded)
