-- The table of slots: keys with what the ground has at them, and the touched keys (own).
use Rattle.std.specs.Prelude.{◌≡◌, ℕ, Bool, List, Option, Some, IfSome, length, map, slice_get, refl}
use Rattle.std.specs.Coded.{Coded, code_by, coded×, coded_bool, coded_list}
use Rattle.std.specs.List.{AllByRecursion}
use Rattle.std.specs.Option.{option_flatten, option_map}
use Rattle.ledger_types.specs.Key.{key_format}
use Rattle.ledger_types.specs.KeyOrder.{ranked_key}
use Rattle.ledger_types.specs.declared.key.LedgerKey.{LedgerKey}
use Rattle.ledger_spec.specs.LedgerMap.{LedgerMap, find, key_bytes, IsKeptAt}
use Rattle.entry_lookup.specs.Found.{kept_of}
use Rattle.contract_storage.specs.Places.{at, named, place_at, place_in}
use Rattle.contract_storage.specs.Touched.{touch, index_in, AreSpelled, IsNoted}
use Rattle.contract_storage.specs.declared.access.Access.{Access}
use Rattle.contract_storage.specs.declared.table.Slot.{Slot}
use Rattle.contract_storage.specs.declared.touched.Noted.{Noted}
use Rattle.contract_storage.specs.declared.touched.Touch.{Touch}

-- the ground's map, the keys of the slots, each with whether it is read-write, and the touched keys
pub record Listed : Type 0 where
  pub base : LedgerMap
  pub keys : List (LedgerKey × Bool)
  pub touches : List Touch

-- how the logic stores it
abbrev pub listed_code : Coded LedgerMap → Coded LedgerKey → Coded Touch → Coded Listed
listed_code c k t =
    code_by (LedgerMap × (List (LedgerKey × Bool) × List Touch))
    (coded× c (coded× (coded_list (coded× k coded_bool)) (coded_list t)))
    (λ s. (s.base, (s.keys, s.touches))) (λ p. record { base = p.0; keys = p.1.0; touches = p.1.1 }) (λ _. refl)

-- the keys of slots, each with whether it is read-write
abbrev pub keys_in : List Slot → List (LedgerKey × Bool)
keys_in slots = map (λ s. (s.key, s.writes)) slots

-- a slot has a key within its XDR format, and what the ground has at this key
pub record IsSlot (base : LedgerMap) (slot : Slot) : Type 0 where
  pub fits : key_format.fits slot.key
  pub found : option_map kept_of slot.below ≡ find base slot.key
  pub kept : IfSome slot.below (λ found. IsKeptAt (key_bytes slot.key) (kept_of found))

-- the index among the touched keys that is marked at a key's slot, if the key has a slot and was touched
abbrev pub mark_of : List (LedgerKey × Bool) → List (Option ℕ) → LedgerKey → Option ℕ
mark_of keys marks key = option_flatten (at (ranked_key key) (named keys marks))

-- the touched keys are within their XDR formats, and the mark of a key is its index among them
pub record AreMarked (keys : List (LedgerKey × Bool)) (marks : List (Option ℕ)) (touches : List Touch) : Type 0 where
  pub mark : (key : LedgerKey) → key_format.fits key → mark_of keys marks key ≡ index_in key touches
  pub spelled : AreSpelled touches

-- each key is at its own place, so no two are the same
abbrev pub AreApart : List (LedgerKey × Bool) → Type 0
AreApart keys = (i : ℕ) (k : LedgerKey × Bool) → slice_get keys i ≡ Some k → place_in k.0 keys ≡ Some i

-- The slots are right and apart, the index has the place of each key, and each slot has its mark.
pub record IsTable (base : LedgerMap) (index : List (LedgerKey × ℕ)) (slots : List Slot) (marks : List (Option ℕ))
    (touches : List Touch) : Type 0 where
  pub right : AllByRecursion (IsSlot base) slots
  pub fits : AllByRecursion (λ e. key_format.fits e.0) index
  pub places : (q : List ℕ) → at q index ≡ place_at q (keys_in slots)
  pub apart : AreApart (keys_in slots)
  pub each : length marks ≡ length slots
  pub marked : AreMarked (keys_in slots) marks touches

-- A key was noted, and this is how to take the note back: the touched keys were those before, and a key with this place was
-- touched since.
pub record WasNoted (keys : List (LedgerKey × Bool)) (place : ℕ) (note : Noted) (before after : List Touch) : Type 0 where
  pub access : Access
  pub key : LedgerKey
  pub fits : key_format.fits key
  pub at-place : place_in key keys ≡ Some place
  pub is : after ≡ touch access key before
  pub noted : IsNoted key before note
