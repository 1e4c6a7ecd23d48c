-- Byte strings that stand twice in a list (own).
use Rattle.std.specs.Prelude.{ℕ, Bool, false, ◌||◌, List, [], ◌∷◌}
use Rattle.std.specs.List.{list_any}
use Rattle.std.specs.Str.{bytes_eq}

-- whether two members of the list are equal
abbrev pub stand_twice : List (List ℕ) → Bool
stand_twice [] = false
stand_twice (bytes ∷ rest) = list_any (bytes_eq bytes) rest || stand_twice rest
