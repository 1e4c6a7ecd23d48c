-- A member of a row is smaller than the row.
use Rattle.std.proofs.Common.{ℕ, zero, suc, ◌<◌, ◌≤◌, List, [], ◌∷◌, length, get_or, arith}
use Rattle.auth_types.specs.Tree.{size, row_size}
use Rattle.auth_types.specs.Views.{tree_of, forest_of}
use Rattle.auth_types.specs.declared.invocation.Invocation.{Invocation}

pub size_at : (is : List Invocation) (k : ℕ) (d : Invocation) → k < length is → size (tree_of (get_or is k d)) ≤ row_size (forest_of is)
size_at [] k d lt = absurd (omega arith)
size_at (i ∷ is) zero d lt = omega arith
size_at (i ∷ is) (suc k) d lt = omega (arith, size_at is k d (omega arith))
