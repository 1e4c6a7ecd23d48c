-- The changes between two maps (own).
use Rattle.std.specs.Prelude.{◌≡◌, ◌≢◌, ◌&&◌, Bool, false, List, All, IfSome, map, Option, Some, None, nat_eq, if◌then◌else◌}
use Rattle.std.specs.List.{fold, filter_map}
use Rattle.std.specs.List.Sorted.{IsStrictlySortedBy}
use Rattle.std.specs.Ordering.{nat_cmp}
use Rattle.std.specs.Cmp.Lexicographic.{slice_cmp}
use Rattle.value_types.specs.Equality.{is_same}
use Rattle.ledger_types.specs.Equality.{coded_entry}
use Rattle.ledger_types.specs.Key.{key_format}
use Rattle.ledger_types.specs.declared.key.LedgerKey.{LedgerKey}
use Rattle.ledger_spec.specs.declared.Kept.{Kept}
use Rattle.ledger_spec.specs.LedgerMap.{LedgerMap, find, key_bytes, IsKeptAt}
use Rattle.contract_storage.specs.Layered.{set_at}
use Rattle.contract_storage.specs.Overlays.{kept_in}
use Rattle.contract_storage.specs.declared.layer.Overlay.{Overlay}
use Rattle.contract_storage.specs.declared.layer.Overlay.TheVariants.{Same, Gone, Now}
use Rattle.contract_storage.specs.declared.changes.Change.{Change}

-- ---- what a list of changes has to say

-- the map after these changes
abbrev pub change_all : LedgerMap → List Change → LedgerMap
change_all entries changes = fold (λ m c. set_at m (key_bytes c.key) c.now) entries changes

-- Two maps differ at the key, and the change has what the new one has there. Key and entry are within their XDR formats.
pub record IsDifference (old new : LedgerMap) (change : Change) : Type 0 where
  pub differs : find old change.key ≢ find new change.key
  pub now-is : change.now ≡ find new change.key
  pub fits : key_format.fits change.key
  pub kept : IfSome change.now (IsKeptAt (key_bytes change.key))

-- The changes are exactly those from the old map to the new one, sorted by the keys' XDR bytes.
pub record AreDifferences (old new : LedgerMap) (changes : List Change) : Type 0 where
  pub each : All (IsDifference old new) changes
  pub all : change_all old changes ≡ new
  pub sorted : IsStrictlySortedBy (slice_cmp nat_cmp) (map (λ c. key_bytes c.key) changes)

-- ---- how the code finds them

-- this entry, with this live-until ledger, is in the ground
abbrev pub is_kept : Option Kept → Kept → Bool
is_kept None kept = false
is_kept (Some found) kept = nat_eq found.live_until kept.live_until && is_same coded_entry found.entry kept.entry

-- the change of a removed key
abbrev pub removal : LedgerKey → Option Kept → Option Change
removal key None = None
removal key (Some found) = Some (record { key = key; now = None })

-- the change of a key with an overlay, given the entry in the ground
abbrev pub difference : Option Kept → LedgerKey × Overlay → Option Change
difference below (key, Same) = None
difference below (key, Gone) = removal key below
difference below (key, Now shared) =
    if is_kept below (kept_in shared) then None else Some (record { key = key; now = Some (kept_in shared) })

-- the changes of all keys with overlays
abbrev pub differences : LedgerMap → List (LedgerKey × Overlay) → List Change
differences base es = filter_map (λ e. difference (find base e.0) e) es
