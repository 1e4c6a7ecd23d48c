-- The outcomes of changes (own).
use Rattle.std.specs.Prelude.{◌≡◌, ℕ, Bool, true, false, Option, Some, None}
use Rattle.ledger_types.specs.declared.entry.LedgerEntry.{LedgerEntry}
use Rattle.ledger_types.specs.declared.header.Settings.{Settings}
use Rattle.ledger_spec.specs.LedgerMap.{LedgerMap}
use Rattle.ledger_spec.specs.Changes.{first_life}
use Rattle.ledger_spec.specs.Seen.{Seen, live, absent, archived}
use Rattle.entry_map.specs.declared.changes.Change.{Change}
use Rattle.entry_map.specs.declared.changes.Change.TheVariants as change
use Rattle.entry_map.specs.declared.changes.Made.{Made}
use Rattle.entry_map.specs.declared.changes.Made.TheVariants as made

-- the live-until ledger of an entry that is put, if there is no archived entry
abbrev pub life_of_put : Seen → Settings → ℕ → LedgerEntry → Option ℕ
life_of_put (live kept) settings n entry = Some kept.live_until
life_of_put absent settings n entry = Some (first_life settings n entry)
life_of_put archived settings n entry = None

-- The map after a change is the defined one. If there is none, the map stays.
abbrev pub IsChange : Option LedgerMap → LedgerMap → LedgerMap → Change → Type 0
IsChange defined old new change.Done = defined ≡ Some new
IsChange defined old new change.Archived = (defined ≡ None) × (new ≡ old)

-- The same for a make. The map also stays if the key is live.
abbrev pub IsMake : Option (Bool × LedgerMap) → LedgerMap → LedgerMap → Made → Type 0
IsMake defined old new made.Created = defined ≡ Some (true, new)
IsMake defined old new made.Live = (defined ≡ Some (false, new)) × (new ≡ old)
IsMake defined old new made.Archived = (defined ≡ None) × (new ≡ old)
