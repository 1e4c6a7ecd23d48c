use Rattle.std.proofs.Common.{◌≤◌, arith}
use Rattle.auth_types.specs.Tree.{size, row_size}
use Rattle.auth_types.specs.Views.{tree_of, forest_of}
use Rattle.auth_types.proofs.Parts.{size_at}
use Rattle.auth_types.proofs.Same.{rows_decide, subs_decide}
use Rattle.auth_types.proofs.equality.+equality.Goals as goal

pub same_invocation-returns-then-eq : goal.same_invocation-returns-then-eq
same_invocation-returns-then-eq t c =
    subs_decide c.args.one.now c.args.other.now _ (c.eq.ensures.exact.0 c.if-eq.true)
    (rows_decide c.as_slice.result.now c.as_slice-then-eq.result.now _ _ _ c.as_slice.ensures c.as_slice-then-eq.ensures c.same_row.ensures)

pub same_row-same_invocation-requires : goal.same_row-same_invocation-requires
same_row-same_invocation-requires t c =
    let small : size (tree_of c.index-row-index.result) ≤ row_size (forest_of c.args.row.now) = rw c.index-row-index.is (size_at c.args.row.now c.loop-index.index _ c.loop-index-test.true) in
    (omega (arith, small, c.decreases), tt)
