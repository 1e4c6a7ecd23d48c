use Rattle.std.proofs.Common.{◌≤◌, arith}
use Rattle.auth_types.specs.Tree.{size, row_size}
use Rattle.auth_types.specs.Views.{tree_of, forest_of}
use Rattle.auth_types.specs.Bytes.{IsInvocationBounded}
use Rattle.auth_types.proofs.Parts.{size_at}
use Rattle.auth_types.proofs.Rows.{bounded_at, row_more}
use Rattle.auth_types.proofs.writing.+write.Goals as goal

pub write_row-write_invocation-requires : goal.write_row-write_invocation-requires
write_row-write_invocation-requires t c =
    let bounded : IsInvocationBounded c.item-item.result = rw c.item-item.is (bounded_at c.args.items.now c.loop-item.item-index _ c.requires c.loop-item-test.true) in
    let small : size (tree_of c.item-item.result) ≤ row_size (forest_of c.args.items.now) = rw c.item-item.is (size_at c.args.items.now c.loop-item.item-index _ c.loop-item-test.true) in
    (omega (arith, small, c.decreases), bounded)

pub write_row-loop-item-preserved : goal.write_row-loop-item-preserved
write_row-loop-item-preserved t c =
    row_more c.args.out.now c.loop-item.out c.write_invocation.new.out c.args.items.now c.loop-item.item-index c.item-item.result c.loop-item-test.true c.item-item.is c.loop-item.invariant c.in_ok-write_invocation.ensures.ok
