-- What is read of a log is within its XDR format (own).
use Rattle.std.specs.Prelude.{◌≡◌, ◌<◌, ◌^◌, ◌&&◌, ℕ, false, List, Some}
use Rattle.std.specs.List.{AllByRecursion}
use Rattle.std.specs.FinMap.{get}
use Rattle.value_types.specs.Equality.{is_same}
use Rattle.ledger_types.specs.Entry.{key_of, entry_format}
use Rattle.ledger_types.specs.Equality.{coded_entry}
use Rattle.ledger_types.specs.declared.entry.LedgerEntry.{LedgerEntry}
use Rattle.ledger_spec.specs.declared.Kept.{Kept}
use Rattle.ledger_spec.specs.LedgerMap.{LedgerMap, key_bytes, IsKeptAt, HasCodeHash}
use Rattle.ledger_types.specs.Key.{key_format}
use Rattle.change_log.specs.declared.entry.LoggedEntry.{LoggedEntry}
use Rattle.change_log.specs.declared.entry.LoggedEntry.TheVariants.{Entry, Ttl}
use Rattle.change_log.specs.declared.change.LedgerEntryChange.{LedgerEntryChange}
use Rattle.change_log.specs.declared.change.LedgerEntryChange.TheVariants.{Created, Updated, Removed, State}
use Rattle.change_log.specs.Groups.{Group, made, gone, altered, keeps_entry, keeps_life}
use Rattle.change_log.specs.Read.{Partial, nothing, created, stated, held, removed, updated, Progress}

-- an entry in a log is within its XDR format
abbrev pub FitsEntry : LoggedEntry → Type 0
FitsEntry (Entry entry) = entry_format.fits entry
FitsEntry (Ttl ttl) = ttl.live_until_ledger_seq < 2 ^ 32

-- a change is
abbrev pub FitsChange : LedgerEntryChange → Type 0
FitsChange (Created entry) = FitsEntry entry
FitsChange (Updated entry) = FitsEntry entry
FitsChange (Removed key) = key_format.fits key
FitsChange (State entry) = FitsEntry entry

-- an entry at its own key
abbrev pub IsKept : Kept → Type 0
IsKept kept = IsKeptAt (key_bytes (key_of kept.entry)) kept

-- each entry of a map is at its key
abbrev pub AreKept : LedgerMap → Type 0
AreKept m = (key : List ℕ) (kept : Kept) → get m key ≡ Some kept → IsKeptAt key kept

-- an entry that can be kept, with some live-until ledger
pub record IsEntry (entry : LedgerEntry) : Type 0 where
  pub fits : entry_format.fits entry
  pub hashed : HasCodeHash entry.data

-- another entry at the same key
pub record IsNewEntry (old new : LedgerEntry) : Type 0 where
  pub entry : IsEntry new
  pub same_key : key_bytes (key_of old) ≡ key_bytes (key_of new)
  pub differs : is_same coded_entry old new ≡ false

abbrev pub IsGroup : Group → Type 0
IsGroup (made new) = IsKept new
IsGroup (gone old) = IsKept old
IsGroup (altered old new) = IsKept old × IsKept new × (key_bytes (key_of old.entry) ≡ key_bytes (key_of new.entry))

-- a group of two ledgers' maps: it is at one key, and something differs
abbrev pub IsProper : Group → Type 0
IsProper (made new) = IsKept new
IsProper (gone old) = IsKept old
IsProper (altered old new) = IsGroup (altered old new) × ((keeps_entry old new && keeps_life old new) ≡ false)

abbrev pub IsPartial : Partial → Type 0
IsPartial nothing = Unit {0}
IsPartial (created entry) = IsEntry entry
IsPartial (stated entry) = IsEntry entry
IsPartial (held old) = IsKept old
IsPartial (removed old) = IsKept old
IsPartial (updated old entry) = IsKept old × IsNewEntry old.entry entry

pub record IsProgress (s : Progress) : Type 0 where
  pub done : AllByRecursion IsGroup s.done
  pub partial : IsPartial s.partial
