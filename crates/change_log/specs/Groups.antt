-- The change groups of two maps of ledger entries (own): what differs between them, key after key.
use Rattle.std.specs.Prelude.{◌==◌, ◌&&◌, ℕ, Bool, List, [], ◌∷◌, ◌++◌, Option, Some, None, if◌then◌else◌}
use Rattle.std.specs.List.{flat_map}
use Rattle.std.specs.Ordering.{nat_cmp}
use Rattle.std.specs.Cmp.Lexicographic.{slice_cmp}
use Rattle.std.specs.FinMap.{get, entries, keys, from_entries}
use Rattle.sha2.specs.Sha256.{sha256}
use Rattle.value_types.specs.Equality.{is_same}
use Rattle.value_types.specs.declared.hash.Hash.{Hash}
use Rattle.ledger_types.specs.Entry.{key_of}
use Rattle.ledger_types.specs.Equality.{coded_entry}
use Rattle.ledger_types.specs.declared.entry.LedgerEntry.{LedgerEntry}
use Rattle.ledger_types.specs.declared.key.LedgerKey.TheVariants as keyed
use Rattle.ledger_spec.specs.declared.Kept.{Kept}
use Rattle.ledger_spec.specs.LedgerMap.{LedgerMap, key_bytes}
use Rattle.change_log.specs.Log.{Changes}
use Rattle.change_log.specs.declared.entry.LoggedEntry.{LoggedEntry}
use Rattle.change_log.specs.declared.entry.LoggedEntry.TheVariants.{Entry, Ttl}
use Rattle.change_log.specs.declared.change.LedgerEntryChange.TheVariants.{Created, Updated, Removed, State}

-- ---- groups

-- how two maps differ at a key
pub data Group : Type 0 where
  made : Kept → Group  -- the second map has an entry, the first has none
  gone : Kept → Group  -- the first map has an entry, the second has none
  altered : Kept → Kept → Group  -- both have one, and the entries or their live-until ledgers differ

-- what the first map has at the key
abbrev pub before_of : Group → Option Kept
before_of (made new) = None
before_of (gone old) = Some old
before_of (altered old new) = Some old

-- what the second map has at the key
abbrev pub after_of : Group → Option Kept
after_of (made new) = Some new
after_of (gone old) = None
after_of (altered old new) = Some new

-- an entry at the group's key
abbrev pub entry_of : Group → LedgerEntry
entry_of (made new) = new.entry
entry_of (gone old) = old.entry
entry_of (altered old new) = old.entry

-- the XDR bytes of the group's key
abbrev pub bytes_of : Group → List ℕ
bytes_of group = key_bytes (key_of (entry_of group))

-- ---- the changes of a group

-- the hash of an entry's key, which its TTL entry has
abbrev pub hash_of : LedgerEntry → Hash
hash_of entry = record { 0 = sha256 (key_bytes (key_of entry)) }

-- the TTL entry of an entry
abbrev pub ttl_of : Kept → LoggedEntry
ttl_of kept = Ttl (record { key_hash = hash_of kept.entry; live_until_ledger_seq = kept.live_until })

-- the entry itself did not change
abbrev pub keeps_entry : Kept → Kept → Bool
keeps_entry old new = is_same coded_entry old.entry new.entry

-- its live-until ledger did not change
abbrev pub keeps_life : Kept → Kept → Bool
keeps_life old new = old.live_until == new.live_until

-- The changes of a group. An entry that stays is not updated, and neither is a live-until ledger that stays.
abbrev pub changes_of : Group → Changes
changes_of (made new) = Created (Entry new.entry) ∷ Created (ttl_of new) ∷ []
changes_of (gone old) =
    State (Entry old.entry) ∷ State (ttl_of old) ∷ Removed (key_of old.entry) ∷ Removed (keyed.Ttl (hash_of old.entry)) ∷ []
changes_of (altered old new) =
    State (Entry old.entry) ∷ State (ttl_of old)
    ∷ ((if keeps_entry old new then [] else Updated (Entry new.entry) ∷ [])
    ++ (if keeps_life old new then [] else Updated (ttl_of new) ∷ []))

-- ---- the groups of two maps

-- the group at a key, if the two maps differ there
abbrev pub group_at : Option Kept → Option Kept → List Group
group_at None None = []
group_at None (Some new) = made new ∷ []
group_at (Some old) None = gone old ∷ []
group_at (Some old) (Some new) = if keeps_entry old new && keeps_life old new then [] else altered old new ∷ []

-- the groups at these keys
abbrev pub groups_at : List (List ℕ) → LedgerMap → LedgerMap → List Group
groups_at bytes m n = flat_map (λ key. group_at (get m key) (get n key)) bytes

-- the keys of both maps, which rise by their XDR bytes
abbrev pub keys_of : LedgerMap → LedgerMap → List (List ℕ)
keys_of m n = keys {R = slice_cmp nat_cmp} (from_entries (entries m ++ entries n))

-- the change groups of two maps
abbrev pub groups : LedgerMap → LedgerMap → List Group
groups m n = groups_at (keys_of m n) m n

-- their changes, as a log has them
abbrev pub changes : LedgerMap → LedgerMap → Changes
changes m n = flat_map changes_of (groups m n)
