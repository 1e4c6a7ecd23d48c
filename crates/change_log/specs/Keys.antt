-- Keys that rise by their XDR bytes (own).
use Rattle.std.specs.Prelude.{◌≡◌, ℕ, Bool, true, List, [], ◌∷◌, Option, Some}
use Rattle.std.specs.List.{AllByRecursion, list_any}
use Rattle.std.specs.Ordering.{nat_cmp, eq_by_cmp}
use Rattle.std.specs.Cmp.Lexicographic.{slice_cmp}
use Rattle.ledger_spec.specs.LedgerFile.{is_above}

-- each key is above this one
abbrev pub IsAfter : Option (List ℕ) → List (List ℕ) → Type 0
IsAfter before keys = AllByRecursion (λ (key : List ℕ). is_above before key ≡ true) keys

-- each key is above those before it
abbrev pub Rise : List (List ℕ) → Type 0
Rise [] = Unit {0}
Rise (key ∷ keys) = IsAfter (Some key) keys × Rise keys

-- the key is in the list
abbrev pub has_key : List (List ℕ) → List ℕ → Bool
has_key keys key = list_any (eq_by_cmp (slice_cmp nat_cmp) key) keys
