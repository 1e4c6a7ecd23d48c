-- The keys at which a ledger differs from the opening one, each with what the opening ledger has there (own).
use Rattle.std.specs.Prelude.{◌≡◌, Bool, not, List, Option, Some, None, is_some, if◌then◌else◌}
use Rattle.std.specs.BTreeMap.{BTreeMap, is_at}
use Rattle.std.specs.FinMap.{insert}
use Rattle.std.specs.List.{list_all}
use Rattle.std.specs.Map.{lookup}
use Rattle.std.specs.Option.{option_map}
use Rattle.entry_map.specs.Entries.{Boxed, kept_of}
use Rattle.ledger_types.specs.Key.{key_format}
use Rattle.ledger_types.specs.KeyOrder.{key_cmp}
use Rattle.stage_runs.specs.Maps.{LedgerKey, Kept, LedgerMap, find, key_bytes}
use Rattle.apply_spec.specs.ListRuns.{are_same}

abbrev pub Moved : Type 0
Moved = BTreeMap LedgerKey (Option Boxed)

-- what the opening ledger has at a key, if the key is among those that moved
abbrev pub opening_at : Moved → LedgerKey → Option (Option Kept)
opening_at moved key = option_map (option_map kept_of) (lookup (is_at (key_cmp key)) moved.entries)

-- A key is among them exactly if the other ledger differs there.
abbrev pub moved_at : Option Kept → Option Kept → Option (Option Kept)
moved_at opening now = if are_same opening now then None else Some opening

abbrev pub AreMoved : LedgerMap → LedgerMap → Moved → Type 0
AreMoved opening entries moved = (key : LedgerKey) → key_format.fits key
    → opening_at moved key ≡ moved_at (find opening key) (find entries key)

-- none of these keys moved
abbrev pub is_still : Moved → LedgerKey → Bool
is_still moved key = not (is_some (lookup (is_at (key_cmp key)) moved.entries))

abbrev pub are_still : Moved → List LedgerKey → Bool
are_still moved keys = list_all (is_still moved) keys

-- what stands at a key after a change, if the opening ledger has this there
abbrev pub kept_after : Option Boxed → Option Kept → Option (Option Boxed)
kept_after first after = if are_same (option_map kept_of first) after then None else Some first

-- a map with this entry, if there is one
abbrev pub with_after : LedgerMap → LedgerKey → Option Kept → LedgerMap
with_after m key None = m
with_after m key (Some kept) = insert m (key_bytes key) kept
