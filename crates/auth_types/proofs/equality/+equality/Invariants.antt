use Rattle.std.proofs.Common.{◌≡◌, ◌+◌, ◌*◌, take}
use Rattle.auth_types.specs.Tree.{size, row_size}
use Rattle.auth_types.specs.Views.{tree_of, forest_of}
use Rattle.auth_types.proofs.equality.+equality.Given as goal

abbrev pub decreases-same_invocation : goal.decreases-same_invocation
decreases-same_invocation l = 2 * size (tree_of l.one.now)

abbrev pub decreases-same_row : goal.decreases-same_row
decreases-same_row l = 2 * row_size (forest_of l.row.now) + 1

abbrev pub invariant-same_row-loop-index : goal.invariant-same_row-loop-index
invariant-same_row-loop-index l = take l.index l.row ≡ take l.index l.others
