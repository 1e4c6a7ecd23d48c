use Rattle.std.proofs.Common.{rules, ◌≤◌, map, refl, ap, arith}
use Rattle.auth_types.specs.Tree.{size, row_size}
use Rattle.auth_types.specs.Views.{tree_of, forest_of}
use Rattle.auth_types.proofs.Lemmas.{size_at}
use Rattle.auth_trees.specs.Listed.{kept}
use Rattle.auth_trees.proofs.Listing.{more, none_yet, tree_done}
use Rattle.auth_trees.proofs.nodes.+list.Goals as goal

pub list_row-loop-tree-init : goal.list_row-loop-tree-init
list_row-loop-tree-init t c = none_yet _

pub list_row-list_tree-requires : goal.list_row-list_tree-requires
list_row-list_tree-requires t c =
    let small : size (tree_of c.tree-item.result) ≤ row_size (forest_of c.args.row.now) = rw c.tree-item.is (size_at c.args.row.now c.loop-tree.tree-index _ c.loop-tree-test.true) in
    (omega (arith, small, c.decreases), tt)

pub list_row-loop-tree-preserved : goal.list_row-loop-tree-preserved
list_row-loop-tree-preserved t c =
    more tree_of (map kept c.args.nodes.now.items) (map kept c.loop-tree.nodes.items) (map kept c.list_tree.new.nodes.items) c.args.row.now c.loop-tree.tree-index c.tree-item.result
    c.loop-tree-test.true c.tree-item.is c.loop-tree.invariant c.in_ok-list_tree.ensures

pub list_tree-list_row-requires : goal.list_tree-list_row-requires
list_tree-list_row-requires t c = (omega (arith, ap row_size c.as_slice.ensures, c.decreases), tt)

pub list_tree-returns : goal.list_tree-returns
list_tree-returns t c =
    tree_done c.args.tree.now (forest_of c.as_slice.result.now) c.args.nodes.now.items c.push.new.self.items c.list_row.new.nodes.items _ _ c.len-at.result c.len.result
    (search rules) (search rules) c.in_ok-push.ensures.items c.as_slice.ensures c.in_ok-list_row.ensures refl
