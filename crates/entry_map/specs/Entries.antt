-- The entries of the code's map as a ledger's map (own).
use Rattle.std.specs.Prelude.{◌<◌, ◌^◌, ℕ, Bool, List, [], ◌∷◌, Option, Some, None, map, length, max, IsTrue}
use Rattle.std.specs.List.{AllByRecursion, list_all}
use Rattle.std.specs.Ordering.{nat_cmp, is_lt}
use Rattle.std.specs.Cmp.Lexicographic.{slice_cmp}
use Rattle.std.specs.FinMap.{is_sorted, from_sorted, entries}
use Rattle.std.specs.Global.{Box}
use Rattle.ledger_types.specs.Entry.{key_of}
use Rattle.ledger_types.specs.KeyOrder.{ranked_key}
use Rattle.ledger_spec.specs.declared.Kept.{Kept}
use Rattle.ledger_spec.specs.LedgerMap.{LedgerMap, IsKeptAt, key_bytes}
use Rattle.entry_map.specs.declared.stored.StoredEntry.{StoredEntry}

-- the map keeps its entries in boxes
abbrev pub Boxed : Type 0
Boxed = Box StoredEntry

abbrev pub kept_of : Boxed → Kept
kept_of held = held.value.kept

-- an entry whose live-until ledger is raised to at least this ledger
abbrev pub lasting : Kept → ℕ → Kept
lasting kept live_until = record { entry = kept.entry; live_until = max kept.live_until live_until }

-- the bytes by which an entry is ordered: those of its key
abbrev pub own_key : Boxed → List ℕ
own_key held = ranked_key (key_of held.value.kept.entry)

-- the XDR bytes of its key, which are the same if it is kept at its key
abbrev pub own_bytes : Boxed → List ℕ
own_bytes held = key_bytes (key_of held.value.kept.entry)

abbrev pub pair_of : Boxed → List ℕ × Kept
pair_of held = (own_key held, held.value.kept)

abbrev pub pairs_of : List Boxed → List (List ℕ × Kept)
pairs_of es = map pair_of es

abbrev pub map_of : List Boxed → LedgerMap
map_of es = from_sorted (pairs_of es)

-- the keys rise strictly
abbrev pub AreSorted : List (List ℕ × Kept) → Type 0
AreSorted ps = IsTrue (is_sorted (slice_cmp nat_cmp) ps)

abbrev pub IsAt : List ℕ × Kept → Type 0
IsAt e = IsKeptAt e.0 e.1

-- sorted entries, each at its key, fewer than 2 ^ 32
pub record AreEntries (ps : List (List ℕ × Kept)) : Type 0 where
  pub sorted : AreSorted ps
  pub each : AllByRecursion IsAt ps
  pub few : length ps < 2 ^ 32

-- the last key of sorted entries
abbrev pub last_key : List (List ℕ × Kept) → Option (List ℕ)
last_key [] = None
last_key (e ∷ []) = Some e.0
last_key (e ∷ f ∷ es) = last_key (f ∷ es)

-- the key is above all keys of the map
abbrev pub is_last : LedgerMap → List ℕ → Bool
is_last m key = list_all (λ e. is_lt (slice_cmp nat_cmp e.0 key)) (entries m)
