-- Which slot a key has (own).
use Rattle.std.specs.Prelude.{◌≡◌, ℕ, suc, Bool, List, [], ◌∷◌, Option, Some, None, if◌then◌else◌}
use Rattle.std.specs.Option.{option_map}
use Rattle.std.specs.Ordering.{nat_cmp, eq_by_cmp}
use Rattle.std.specs.Cmp.Lexicographic.{slice_cmp}
use Rattle.ledger_types.specs.Key.{key_format}
use Rattle.ledger_types.specs.KeyOrder.{ranked_key}
use Rattle.ledger_types.specs.declared.key.LedgerKey.{LedgerKey}
use Rattle.contract_storage.specs.declared.spot.Spot.{Spot}

-- whether a key has these bytes
abbrev pub has_bytes : List ℕ → LedgerKey → Bool
has_bytes q key = eq_by_cmp (slice_cmp nat_cmp) q (ranked_key key)

-- the number of the slot of the first key with these bytes
abbrev pub place_at : List ℕ → List (LedgerKey × Bool) → Option ℕ
place_at q [] = None
place_at q (e ∷ es) = if has_bytes q e.0 then Some 0 else option_map suc (place_at q es)

-- the number of the slot of a key
abbrev pub place_in : LedgerKey → List (LedgerKey × Bool) → Option ℕ
place_in key keys = place_at (ranked_key key) keys

-- a key within its XDR format, with the number of its slot
pub record IsSpot (keys : List (LedgerKey × Bool)) (spot : Spot) : Type 0 where
  pub fits : key_format.fits spot.key.now
  pub place : place_in spot.key.now keys ≡ Some spot.at

-- what the first of these keys with these bytes has
abbrev pub at : {X : Type 0} → List ℕ → List (LedgerKey × X) → Option X
at q [] = None
at q (e ∷ es) = if has_bytes q e.0 then Some e.1 else at q es

-- the values of slots, each with its key
abbrev pub named : {X : Type 0} → List (LedgerKey × Bool) → List X → List (LedgerKey × X)
named [] xs = []
named (k ∷ ks) [] = []
named (k ∷ ks) (x ∷ xs) = (k.0, x) ∷ named ks xs
