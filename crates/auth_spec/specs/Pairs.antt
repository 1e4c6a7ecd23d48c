-- The nodes of authorisation entries that met demands (own, after CAP-0046-11).
use Rattle.std.specs.Prelude.{ℕ, ◌&&◌, List, length, nat_eq, nat_lt, Bool, Option, Some, None, if◌then◌else◌, refl}
use Rattle.std.specs.List.{list_any, starts_with, filter, fold}
use Rattle.std.specs.Str.{bytes_eq}
use Rattle.std.specs.Coded.{Coded, code_by, coded×, coded_list, coded_ℕ}

-- A node of an authorisation entry that met a demand, and the path of the frame that demanded it. The entry is given by its
-- index, the node by the indices of the children that lead to it from the root.
pub record Pair : Type 0 where
  pub entry : ℕ
  pub node : List ℕ
  pub path : List ℕ

-- whether an entry has a pair
abbrev pub has_pair : List Pair → ℕ → Bool
has_pair pairs entry = list_any (λ pair. nat_eq pair.entry entry) pairs

-- whether a node of an entry has a pair
abbrev pub is_paired : List Pair → ℕ → List ℕ → Bool
is_paired pairs entry node = list_any (λ pair. nat_eq pair.entry entry && bytes_eq pair.node node) pairs

-- whether the second path is a proper prefix of the first
abbrev pub is_below : List ℕ → List ℕ → Bool
is_below path above = starts_with nat_eq path above && nat_lt (length above) (length path)

-- the pair with the longer path, or the later pair if both paths have the same length
abbrev pub deeper : Option Pair → Pair → Option Pair
deeper None later = Some later
deeper (Some best) later = if nat_lt (length later.path) (length best.path) then Some best else Some later

-- The pair of an entry with the longest path that is a proper prefix of this path. Of several pairs with that path it is the last
-- one.
abbrev pub deepest : List Pair → List ℕ → ℕ → Option Pair
deepest pairs path entry = fold deeper None (filter (λ pair. nat_eq pair.entry entry && is_below path pair.path) pairs)

-- ---- how the logic stores pairs

abbrev pub pair_code : Coded Pair
pair_code =
    code_by (ℕ × (List ℕ × List ℕ)) (coded× coded_ℕ (coded× (coded_list coded_ℕ) (coded_list coded_ℕ)))
    (λ p. (p.entry, (p.node, p.path)))
    (λ q. record { entry = q.0; node = q.1.0; path = q.1.1 }) (λ _. refl)
