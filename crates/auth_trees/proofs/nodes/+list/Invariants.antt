use Rattle.std.proofs.Common.{◌≡◌, ◌+◌, ◌*◌, ◌++◌, map, take}
use Rattle.auth_types.specs.Tree.{size, row_size, trees_of}
use Rattle.auth_types.specs.Views.{tree_of, forest_of}
use Rattle.auth_trees.specs.Listed.{kept, nodes_of_row}
use Rattle.auth_trees.proofs.nodes.+list.Given as goal

abbrev pub invariant-list_row-loop-tree : goal.invariant-list_row-loop-tree
invariant-list_row-loop-tree l = map kept l.nodes.items ≡ map kept l.initial.nodes.items ++ nodes_of_row (trees_of (forest_of (take l.tree-index l.row)))

abbrev pub decreases-list_tree : goal.decreases-list_tree
decreases-list_tree l = 2 * size (tree_of l.tree.now)

abbrev pub decreases-list_row : goal.decreases-list_row
decreases-list_row l = 2 * row_size (forest_of l.row.now) + 1
