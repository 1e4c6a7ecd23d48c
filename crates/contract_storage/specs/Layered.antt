-- A map of ledger entries under writes that can be undone (own).
use Rattle.std.specs.Prelude.{◌≡◌, ◌⊎◌, ℕ, Bool, List, [], ◌∷◌, ◌++◌, Option, Some, None, refl}
use Rattle.std.specs.Coded.{Coded, code_by, coded×, coded_bool, coded_list}
use Rattle.std.specs.FinMap.{get, insert, remove}
use Rattle.ledger_types.specs.declared.key.LedgerKey.{LedgerKey}
use Rattle.ledger_spec.specs.declared.Kept.{Kept}
use Rattle.ledger_spec.specs.LedgerMap.{LedgerMap}
use Rattle.contract_storage.specs.declared.touched.Touch.{Touch}

-- The map without writes, the map after all writes, and the maps at the open snapshots, the oldest first. Then the keys of the
-- slots, each with whether it is read-write, and the touched keys.
pub record Layered : Type 0 where
  pub base : LedgerMap
  pub map : LedgerMap
  pub snapshots : List LedgerMap
  pub keys : List (LedgerKey × Bool)
  pub touches : List Touch

-- how the logic stores it
abbrev pub layered_code : Coded LedgerMap → Coded LedgerKey → Coded Touch → Coded Layered
layered_code c k t =
    code_by (LedgerMap × (LedgerMap × (List LedgerMap × (List (LedgerKey × Bool) × List Touch))))
    (coded× c (coded× c (coded× (coded_list c) (coded× (coded_list (coded× k coded_bool)) (coded_list t)))))
    (λ s. (s.base, (s.map, (s.snapshots, (s.keys, s.touches)))))
    (λ p. record { base = p.0; map = p.1.0; snapshots = p.1.1.0; keys = p.1.1.1.0; touches = p.1.1.1.1 }) (λ _. refl)

-- the map with this entry at a key's bytes; `None` removes the entry there
abbrev pub set_at : LedgerMap → List ℕ → Option Kept → LedgerMap
set_at map bytes None = remove map bytes
set_at map bytes (Some kept) = insert map bytes kept

-- the same after one more write
abbrev pub with_write : Layered → List ℕ → Option Kept → Layered
with_write s bytes now = record s { map = set_at s.map bytes now }

-- the same with one more open snapshot
abbrev pub with_snapshot : Layered → Layered
with_snapshot s = record s { snapshots = s.snapshots ++ s.map ∷ [] }

-- the same with these keys
abbrev pub with_slots : Layered → List (LedgerKey × Bool) → Layered
with_slots s keys = record s { keys = keys }

-- the same with these touched keys
abbrev pub with_touches : Layered → List Touch → Layered
with_touches s touches = record s { touches = touches }

-- a layer without writes and touched keys
abbrev pub unwritten : LedgerMap → List (LedgerKey × Bool) → Layered
unwritten base keys = record { base = base; map = base; snapshots = []; keys = keys; touches = [] }

-- only the maps differ
abbrev pub HasOtherMaps : Layered → Layered → Type 0
HasOtherMaps old new = new ≡ record old { map = new.map; snapshots = new.snapshots }

-- each key has in the last map what it has in one of the others
abbrev pub IsMixed : LedgerMap → LedgerMap → LedgerMap → Type 0
IsMixed one other mixed = (bytes : List ℕ) → (get mixed bytes ≡ get one bytes) ⊎ (get mixed bytes ≡ get other bytes)
