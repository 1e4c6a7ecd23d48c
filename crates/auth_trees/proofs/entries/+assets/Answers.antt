use Rattle.std.proofs.Common.{◌≤◌, arith}
use Rattle.auth_types.specs.Tree.{size, row_size}
use Rattle.auth_types.specs.Views.{tree_of, forest_of}
use Rattle.auth_types.proofs.Lemmas.{size_at}
use Rattle.auth_trees.proofs.entries.+assets.Goals as goal

pub have_asset-has_asset-requires : goal.have_asset-has_asset-requires
have_asset-has_asset-requires t c =
    let small : size (tree_of c.tree-item.result) ≤ row_size (forest_of c.args.row.now) = rw c.tree-item.is (size_at c.args.row.now c.loop-tree.tree-index _ c.loop-tree-test.true) in
    (omega (arith, small, c.decreases), tt)
