-- The keys that were accessed, and which accesses a storage allows (own, after CAP-0046-05).
use Rattle.std.specs.Prelude.{◌≡◌, ◌<◌, ◌^◌, ℕ, suc, Bool, true, List, [], ◌∷◌, length, Option, Some, None, if◌then◌else◌}
use Rattle.std.specs.List.{AllByRecursion}
use Rattle.std.specs.Option.{option_map}
use Rattle.std.specs.Str.{bytes_eq}
use Rattle.ledger_types.specs.Key.{key_format}
use Rattle.ledger_types.specs.declared.key.LedgerKey.{LedgerKey}
use Rattle.ledger_spec.specs.LedgerMap.{key_bytes}
use Rattle.contract_storage.specs.declared.access.Access.{Access}
use Rattle.contract_storage.specs.declared.access.Access.TheVariants.{Read, Extend, Write}
use Rattle.contract_storage.specs.declared.touched.Noted.{Noted}
use Rattle.contract_storage.specs.declared.touched.Noted.TheVariants.{First, Again}
use Rattle.contract_storage.specs.declared.touched.Touch.{Touch}
use Rattle.contract_storage.specs.Footprint.{allows}
use Rattle.contract_storage.specs.Watched.{Seen, see}

-- ---- touched keys

-- the stronger of two accesses: Write is above Extend, and Extend is above Read
abbrev pub stronger : Access → Access → Access
stronger Write b = Write
stronger Extend Write = Write
stronger Extend Read = Extend
stronger Extend Extend = Extend
stronger Read b = b

-- the keys have the same XDR bytes
abbrev pub is_same_key : LedgerKey → LedgerKey → Bool
is_same_key a b = bytes_eq (key_bytes a) (key_bytes b)

-- The touched keys after one more access. They stand in the order of their first access, each with its strongest access. The same
-- rule stands in apply_spec/specs/Recorded, in the names of a run; tx_apply proves that they agree.
abbrev pub touch : Access → LedgerKey → List Touch → List Touch
touch access key [] = record { key = key; access = access } ∷ []
touch access key (t ∷ ts) =
    if is_same_key key t.key then record t { access = stronger t.access access } ∷ ts else t ∷ touch access key ts

-- ---- what is allowed

-- A storage that enforces a footprint allows the accesses that its declared keys allow. One that records has no declared keys,
-- and allows all.
abbrev pub admits : Option (List (LedgerKey × Bool)) → Access → LedgerKey → Bool
admits (Some declared) access key = allows declared access key
admits None access key = true

-- the touched keys after an access that was allowed; a storage that enforces a footprint keeps none
abbrev pub touched_by : Option (List (LedgerKey × Bool)) → Access → LedgerKey → List Touch → List Touch
touched_by (Some declared) access key touched = touched
touched_by None access key touched = touch access key touched

-- what is known of the accesses so far: the touched keys, and what an observer has seen
pub record Known : Type 0 where
  pub keys : List Touch
  pub seen : Seen

-- what is known after an access that was allowed
abbrev pub noted : Option (List (LedgerKey × Bool)) → Access → LedgerKey → Known → Known
noted declared access key known = record { keys = touched_by declared access key known.keys; seen = see access key known.seen }

-- ---- notes that are taken back

-- the strongest access to the key, if it was touched
abbrev pub access_in : LedgerKey → List Touch → Option Access
access_in key [] = None
access_in key (t ∷ ts) = if is_same_key key t.key then Some t.access else access_in key ts

-- the touched keys with this as the strongest access to the key, if it was touched
abbrev pub touch_as : Access → LedgerKey → List Touch → List Touch
touch_as access key [] = []
touch_as access key (t ∷ ts) = if is_same_key key t.key then record t { access = access } ∷ ts else t ∷ touch_as access key ts

-- an access to the key was added to these keys: for the first time, or again
abbrev pub IsNoted : LedgerKey → List Touch → Noted → Type 0
IsNoted key before First = access_in key before ≡ None
IsNoted key before (Again access) = access_in key before ≡ Some access

-- the same of a storage, of which only one that records has a note
abbrev pub IsNotedIn : Option (List (LedgerKey × Bool)) → LedgerKey → List Touch → Option Noted → Type 0
IsNotedIn (Some declared) key before noted = noted ≡ None
IsNotedIn None key before None = ⊥
IsNotedIn None key before (Some noted) = IsNoted key before noted

-- ---- where a touched key stands

-- the index of the key, if it was touched
abbrev pub index_in : LedgerKey → List Touch → Option ℕ
index_in key [] = None
index_in key (t ∷ ts) = if is_same_key key t.key then Some 0 else option_map suc (index_in key ts)

-- each key is within its XDR format, and they are few enough for an XDR array
pub record AreSpelled (touched : List Touch) : Type 0 where
  pub few : length touched < 2 ^ 32
  pub each : AllByRecursion (λ t. key_format.fits t.key) touched
