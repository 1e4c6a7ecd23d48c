-- The states of slots, as maps (own).
use Rattle.std.specs.Prelude.{◌≡◌, ◌⊎◌, ◌<◌, ℕ, Bool, List, [], ◌∷◌, Option, Some, None, IsSomeAnd, is_some, length, map}
use Rattle.std.specs.Prelude.{slice_get, slice_set, if◌then◌else◌}
use Rattle.std.specs.List.{AllByRecursion}
use Rattle.std.specs.Map.{lookup}
use Rattle.std.specs.BTreeMap.{insert_entry, is_at}
use Rattle.std.specs.FinMap.{get}
use Rattle.std.specs.Ordering.{nat_cmp}
use Rattle.ledger_types.specs.Key.{key_format}
use Rattle.ledger_types.specs.KeyOrder.{ranked_key}
use Rattle.ledger_types.specs.declared.key.LedgerKey.{LedgerKey}
use Rattle.ledger_spec.specs.declared.Kept.{Kept}
use Rattle.ledger_spec.specs.LedgerMap.{LedgerMap, key_bytes, IsKeptAt}
use Rattle.contract_storage.specs.Layered.{Layered, set_at}
use Rattle.contract_storage.specs.Places.{named}
use Rattle.contract_storage.specs.declared.layer.Shared.{Shared}
use Rattle.contract_storage.specs.declared.layer.Overlay.{Overlay}
use Rattle.contract_storage.specs.declared.layer.Overlay.TheVariants.{Same, Gone, Now}
use Rattle.contract_storage.specs.declared.layer.Saved.{Saved}
use Rattle.contract_storage.specs.declared.layer.Undo.{Undo}
use Rattle.contract_storage.specs.declared.touched.Touch.{Touch}

-- an entry that may be shared, with its live-until ledger
abbrev pub kept_in : Shared → Kept
kept_in shared = record { entry = shared.entry.value; live_until = shared.live_until }

-- what a write of this entry leaves at its key
abbrev pub overlay_of : Option Shared → Overlay
overlay_of None = Gone
overlay_of (Some shared) = Now shared

-- the entry at a key, given the entry in the ground
abbrev pub over_entry : Option Kept → Overlay → Option Kept
over_entry below Same = below
over_entry below Gone = None
over_entry below (Now shared) = Some (kept_in shared)

-- the map with one overlay
abbrev pub laid : LedgerMap → LedgerMap → LedgerKey → Overlay → LedgerMap
laid base map key overlay = set_at map (ranked_key key) (over_entry (get base (ranked_key key)) overlay)

-- the map with all of these overlays
abbrev pub laid_all : LedgerMap → LedgerMap → List (LedgerKey × Overlay) → LedgerMap
laid_all base map [] = map
laid_all base map (e ∷ es) = laid base (laid_all base map es) e.0 e.1

-- the ground with all overlays
abbrev pub over : LedgerMap → List (LedgerKey × Overlay) → LedgerMap
over base es = laid_all base base es

-- the ground with the states of all slots
abbrev pub shown : LedgerMap → List (LedgerKey × Bool) → List Overlay → LedgerMap
shown base keys states = over base (named keys states)

-- what each open snapshot has saved, by the numbers of slots, the oldest first
abbrev pub saved_in : List Saved → List (List (ℕ × Overlay))
saved_in saved = map (λ s. s.states.entries) saved

-- the states after what a snapshot saved was put back
abbrev pub back : List (ℕ × Overlay) → List Overlay → List Overlay
back [] states = states
back (e ∷ es) states = slice_set (back es states) e.0 e.1

-- the states at the oldest of these snapshots, or the present ones
abbrev pub states_at : List Overlay → List (List (ℕ × Overlay)) → List Overlay
states_at states [] = states
states_at states (s ∷ ss) = back s (states_at states ss)

-- the states at these snapshots
abbrev pub all_states : List Overlay → List (List (ℕ × Overlay)) → List (List Overlay)
all_states states [] = []
all_states states (s ∷ ss) = states_at states (s ∷ ss) ∷ all_states states ss

-- a layer as contracts see it
abbrev pub layered : LedgerMap → List (LedgerKey × Bool) → List Touch → List Overlay → List (List (ℕ × Overlay)) → Layered
layered base keys touches states ss = record {
  base = base;
  map = shown base keys states;
  snapshots = map (shown base keys) (all_states states ss);
  keys = keys;
  touches = touches;
}

-- what a snapshot has saved after a write: the state of the slot before it, unless it has one of the slot
abbrev pub with_state : List (ℕ × Overlay) → Undo → List (ℕ × Overlay)
with_state s u = if is_some (lookup (is_at (nat_cmp u.at)) s) then s else insert_entry nat_cmp s u.at u.before

-- the newest open snapshot saves the state, if there is one
abbrev pub with_saved : List (List (ℕ × Overlay)) → Undo → List (List (ℕ × Overlay))
with_saved [] u = []
with_saved (s ∷ []) u = with_state s u ∷ []
with_saved (s ∷ t ∷ ss) u = s ∷ with_saved (t ∷ ss) u

-- the entry in an overlay belongs to the key with these bytes
abbrev pub IsHeldAt : List ℕ → Overlay → Type 0
IsHeldAt bytes Same = Unit {0}
IsHeldAt bytes Gone = Unit {0}
IsHeldAt bytes (Now shared) = IsKeptAt bytes (kept_in shared)

-- a key within its XDR format, and its overlay
pub record IsLaid (e : LedgerKey × Overlay) : Type 0 where
  pub fits : key_format.fits e.0
  pub held : IsHeldAt (key_bytes e.0) e.1

-- the slot with this number exists, and the entry in this state belongs to its key
abbrev pub IsState : List (LedgerKey × Bool) → ℕ × Overlay → Type 0
IsState keys e = IsSomeAnd (slice_get keys e.0) (λ k. IsHeldAt (ranked_key k.0) e.1)

-- a state whose number is below this one
abbrev pub IsWithin : ℕ → ℕ × Overlay → Type 0
IsWithin count e = e.0 < count

-- each slot has in the last list what it has in one of the others
abbrev pub AreMixed : List Overlay → List Overlay → List Overlay → Type 0
AreMixed one other mixed = (i : ℕ) → (slice_get mixed i ≡ slice_get one i) ⊎ (slice_get mixed i ≡ slice_get other i)

-- a state before a write, with the number of its slot
abbrev pub undone : Undo → ℕ × Overlay
undone u = (u.at, u.before)

-- Each slot has a state, and all states are those of slots: the present ones, and those that snapshots saved.
pub record IsSound (keys : List (LedgerKey × Bool)) (states : List Overlay) (ss : List (List (ℕ × Overlay))) : Type 0 where
  pub each : length states ≡ length keys
  pub held : (i : ℕ) (x : Overlay) → slice_get states i ≡ Some x → IsState keys (i, x)
  pub saved : AllByRecursion (AllByRecursion (IsState keys)) ss
