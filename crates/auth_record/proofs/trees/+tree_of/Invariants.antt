use Rattle.std.proofs.Common.{◌≡◌, ◌-◌, take, map}
use Rattle.auth_types.specs.Views.{forest_of}
use Rattle.auth_notes.specs.Recording.{notes_of}
use Rattle.record_spec.specs.Trees.{tree_below}
use Rattle.auth_record.specs.Children.{notes_at}
use Rattle.auth_record.proofs.trees.+tree_of.Given as goal

abbrev pub decreases-tree_of : goal.decreases-tree_of
decreases-tree_of l = l.levels

abbrev pub invariant-loop-index : goal.invariant-loop-index
invariant-loop-index l =
    forest_of l.trees.items ≡ map (tree_below (l.levels - 1) (notes_of l.notes)) (notes_at l.notes (take l.index-index l.index-items))
