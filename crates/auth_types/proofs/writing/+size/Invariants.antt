use Rattle.std.proofs.Common.{◌≡◌, ◌+◌, ◌*◌, length, take}
use Rattle.std.specs.List.{flat_map, AllByRecursion}
use Rattle.xdr_core.specs.Sizes.{capped}
use Rattle.auth_types.specs.Tree.{size, row_size}
use Rattle.auth_types.specs.Views.{tree_of, forest_of}
use Rattle.auth_types.specs.Bytes.{tree_bytes, IsTreeBounded}
use Rattle.auth_types.proofs.writing.+size.Given as goal

abbrev pub invariant-size_of_row-loop-item : goal.invariant-size_of_row-loop-item
invariant-size_of_row-loop-item l = AllByRecursion IsTreeBounded (forest_of l.items) → l.size ≡ capped (length (flat_map tree_bytes (forest_of (take l.item-index l.items))))

abbrev pub decreases-size_of_invocation : goal.decreases-size_of_invocation
decreases-size_of_invocation l = 2 * size (tree_of l.invocation.now)

abbrev pub decreases-size_of_row : goal.decreases-size_of_row
decreases-size_of_row l = 2 * row_size (forest_of l.items.now) + 1
