use Rattle.std.proofs.Common.{◌≡◌, ◌+◌, ◌*◌, drop}
use Rattle.auth_types.specs.Tree.{size, row_size, trees_of}
use Rattle.auth_types.specs.Views.{tree_of, forest_of}
use Rattle.auth_spec.specs.Demands.{have_asset}
use Rattle.auth_trees.proofs.entries.+assets.Given as goal

abbrev pub invariant-have_asset-loop-tree : goal.invariant-have_asset-loop-tree
invariant-have_asset-loop-tree l = have_asset (trees_of (forest_of (drop l.tree-index l.row))) ≡ have_asset (trees_of (forest_of l.row))

abbrev pub decreases-has_asset : goal.decreases-has_asset
decreases-has_asset l = 2 * size (tree_of l.tree.now)

abbrev pub decreases-have_asset : goal.decreases-have_asset
decreases-have_asset l = 2 * row_size (forest_of l.row.now) + 1
