-- How two prefixes compare, whatever follows them (own). The order is that of std's slices.
use Rattle.std.specs.Prelude.{◌≡◌, ℕ, List, ◌++◌}
use Rattle.std.specs.declared.cmp.Ordering.{Ordering}
use Rattle.std.specs.Ordering.{nat_cmp, ordering_then}
use Rattle.std.specs.Cmp.Lexicographic.{slice_cmp}

-- The prefixes decide. If they are Equal, the bytes after them decide.
pub record Against (xs ys : List ℕ) (o : Ordering) : Type 0 where
  pub decides : (r s : List ℕ) → slice_cmp nat_cmp (xs ++ r) (ys ++ s) ≡ ordering_then o (slice_cmp nat_cmp r s)
