-- The changes that a host function makes, as the code has them (own).
use Rattle.std.specs.Prelude.{◌≡◌, ℕ, Bool, List, Option, Some, None, IfSome}
use Rattle.std.specs.List.{filter_map}
use Rattle.std.specs.Map.{lookup}
use Rattle.std.specs.BTreeMap.{is_at, insert_entry}
use Rattle.ledger_types.specs.Key.{key_format}
use Rattle.ledger_types.specs.KeyOrder.{key_cmp}
use Rattle.ledger_types.specs.declared.key.LedgerKey.{LedgerKey}
use Rattle.ledger_spec.specs.declared.Kept.{Kept}
use Rattle.ledger_spec.specs.LedgerMap.{LedgerMap, find, key_bytes, IsKeptAt}
use Rattle.ledger_spec.specs.Seen.{Seen, seen, seen_of}
use Rattle.contract_storage.specs.declared.changes.Change.{Change}
use Rattle.stage_runs.specs.declared.Extension.{Extension}
use Rattle.stage_runs.specs.Whole.{extension_of}
use Rattle.call_spec.specs.Invoked.{is_unaltered, altered_bytes}

-- key and entry of a change are within their XDR formats
pub record CanStand (change : Change) : Type 0 where
  pub fits : key_format.fits change.key
  pub kept : IfSome change.now (IsKeptAt (key_bytes change.key))

-- what was found is live, and its entry is this one
abbrev pub is_unaltered_by : Kept → Seen → Bool
is_unaltered_by kept s = is_unaltered kept.entry s

-- the bytes that one change writes
abbrev pub changed_bytes : ℕ → LedgerMap → Change → ℕ
changed_bytes n old change = altered_bytes (seen n old change.key) (seen_of n change.now)

-- ---- changes by key

-- key and entry are within their XDR formats
pub record CanLie (e : LedgerKey × Option Kept) : Type 0 where
  pub fits : key_format.fits e.0
  pub kept : IfSome e.1 (IsKeptAt (key_bytes e.0))

-- the changes by key with one more
abbrev pub with_change : List (LedgerKey × Option Kept) → Change → List (LedgerKey × Option Kept)
with_change es change = insert_entry key_cmp es change.key change.now

-- the entry at a key, given the one in the ground, and its change if it has one
abbrev pub now_at : Option Kept → Option (Option Kept) → Option Kept
now_at below None = below
now_at below (Some now) = now

abbrev pub found_in : LedgerMap → List (LedgerKey × Option Kept) → LedgerKey → Option Kept
found_in old es key = now_at (find old key) (lookup (is_at (key_cmp key)) es)

-- the changes by key lead from the old map to the new one
abbrev pub Leads : LedgerMap → LedgerMap → List (LedgerKey × Option Kept) → Type 0
Leads old new es = (key : LedgerKey) → key_format.fits key → found_in old es key ≡ find new key

-- the extensions of the keys whose entries live longer after the changes
abbrev pub longer_in : LedgerMap → List (LedgerKey × Option Kept) → List LedgerKey → List Extension
longer_in old es keys = filter_map (λ key. extension_of key (find old key) (found_in old es key)) keys
