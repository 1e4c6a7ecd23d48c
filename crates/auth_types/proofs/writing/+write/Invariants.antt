use Rattle.std.proofs.Common.{◌≡◌, ◌+◌, ◌*◌, ◌++◌, take}
use Rattle.std.specs.List.{flat_map}
use Rattle.auth_types.specs.Tree.{size, row_size}
use Rattle.auth_types.specs.Views.{tree_of, forest_of}
use Rattle.auth_types.specs.Bytes.{tree_bytes}
use Rattle.auth_types.proofs.writing.+write.Given as goal

abbrev pub invariant-write_row-loop-item : goal.invariant-write_row-loop-item
invariant-write_row-loop-item l = l.out ≡ l.initial.out ++ flat_map tree_bytes (forest_of (take l.item-index l.items))

abbrev pub decreases-write_invocation : goal.decreases-write_invocation
decreases-write_invocation l = 2 * size (tree_of l.invocation.now)

abbrev pub decreases-write_row : goal.decreases-write_row
decreases-write_row l = 2 * row_size (forest_of l.items.now) + 1
