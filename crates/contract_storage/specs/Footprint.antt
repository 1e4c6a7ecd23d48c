-- Which accesses a footprint allows (own, after CAP-0046-05).
use Rattle.std.specs.Prelude.{◌≡◌, Bool, true, false, List, [], ◌∷◌, ◌++◌, ◌||◌, Option, Some, None, is_some, fold, if◌then◌else◌}
use Rattle.std.specs.List.{list_any}
use Rattle.std.specs.Str.{bytes_eq}
use Rattle.std.specs.Map.{lookup}
use Rattle.std.specs.BTreeMap.{is_at}
use Rattle.ledger_types.specs.Key.{key_format}
use Rattle.ledger_types.specs.KeyOrder.{key_cmp}
use Rattle.ledger_types.specs.declared.key.LedgerKey.{LedgerKey}
use Rattle.ledger_spec.specs.LedgerMap.{key_bytes}
use Rattle.contract_storage.specs.Places.{place_in}
use Rattle.contract_storage.specs.declared.access.Access.{Access}
use Rattle.contract_storage.specs.declared.access.Access.TheVariants.{Read, Extend, Write}

-- the key is in the list
abbrev pub is_listed : LedgerKey → List LedgerKey → Bool
is_listed key keys = list_any (λ k. bytes_eq (key_bytes key) (key_bytes k)) keys

-- A read-write key may be written. A read-only or read-write key may be read and extended.
abbrev pub declares : List LedgerKey → List LedgerKey → Access → LedgerKey → Bool
declares read_only read_write Write key = is_listed key read_write
declares read_only read_write Read key = is_listed key read_only || is_listed key read_write
declares read_only read_write Extend key = is_listed key read_only || is_listed key read_write

-- the access to a key that is read-write or not, or not declared
abbrev pub permits : Access → Option Bool → Bool
permits access None = false
permits Write (Some writes) = writes
permits Read (Some writes) = true
permits Extend (Some writes) = true

-- the declared keys of a storage allow the access
abbrev pub allows : List (LedgerKey × Bool) → Access → LedgerKey → Bool
allows declared access key = permits access (lookup (is_at (key_cmp key)) declared)

-- the declared keys of a storage allow what the two lists declare
abbrev pub IsFootprint : List LedgerKey → List LedgerKey → List (LedgerKey × Bool) → Type 0
IsFootprint read_only read_write declared =
    (access : Access) (key : LedgerKey) → key_format.fits key
    → allows declared access key ≡ declares read_only read_write access key

-- the keys with one more at their end, unless it is there
abbrev pub with_key : List (LedgerKey × Bool) → LedgerKey → Bool → List (LedgerKey × Bool)
with_key keys key writes = if is_some (place_in key keys) then keys else keys ++ (key, writes) ∷ []

-- the keys with those of a list
abbrev pub with_keys : List (LedgerKey × Bool) → List LedgerKey → Bool → List (LedgerKey × Bool)
with_keys keys list writes = fold (λ es key. with_key es key writes) keys list
