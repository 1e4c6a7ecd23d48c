-- Rows in the order of their names (own).
use Rattle.std.specs.Prelude.{◌≡◌, ℕ, ◌&&◌, Bool, true, false, not, List, [], ◌∷◌, map, Option, Some, None, slice_get}
use Rattle.std.specs.Prelude.{if◌then◌else◌}
use Rattle.std.specs.Cmp.Lexicographic.{slice_cmp}
use Rattle.std.specs.List.{list_all, list_any}
use Rattle.std.specs.Ordering.{nat_cmp, is_lt}
use Rattle.std.specs.Str.{bytes_eq}
use Rattle.list_laws.specs.Twice.{stand_twice}
use Rattle.host_interface.specs.Rows.{Row}

-- the name of a row, if there is one
abbrev pub name_in : Option Row → List ℕ
name_in None = []
name_in (Some row) = row.name

-- the name of the row of an index
abbrev pub name_at : List Row → ℕ → List ℕ
name_at rows k = name_in (slice_get rows k)

-- no name is below the one before it
abbrev pub ascend : (ℕ → List ℕ) → List ℕ → Bool
ascend name [] = true
ascend name (k ∷ []) = true
ascend name (k ∷ l ∷ order) = not (is_lt (slice_cmp nat_cmp (name l) (name k))) && ascend name (l ∷ order)

-- each row has one of the names
abbrev pub named_in : List Row → List (List ℕ) → Bool
named_in rows names = list_all (λ row. list_any (bytes_eq row.name) names) rows

-- the names of rows
abbrev pub names_of : List Row → List (List ℕ)
names_of = map (λ row. row.name)

-- The indices are those of all rows, in the order of the rows' names. No two rows have the same name, and none has an empty one.
pub record IsOrder (rows : List Row) (order : List ℕ) : Type 0 where
  pub ascending : ascend (name_at rows) order ≡ true
  pub whole : named_in rows (map (name_at rows) order) ≡ true
  pub distinct : stand_twice (names_of rows) ≡ false
  pub named : list_any (bytes_eq []) (names_of rows) ≡ false

-- the row, if it is of this module
abbrev pub row_of_module : Option Row → List ℕ → Option Row
row_of_module None letter = None
row_of_module (Some row) letter = if bytes_eq row.letter letter then Some row else None
