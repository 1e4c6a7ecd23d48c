-- The groups that a list of changes consists of (own). The law `groups_are_read` says what this comes to: the list is that of
-- the groups' changes.
use Rattle.std.specs.Prelude.{◌==◌, ◌&&◌, not, ℕ, Bool, true, false, List, [], ◌∷◌, ◌++◌, Option, Some, None, if◌then◌else◌}
use Rattle.std.specs.Option.{option_and_then}
use Rattle.std.specs.Str.{bytes_eq}
use Rattle.sha2.specs.Sha256.{sha256}
use Rattle.value_types.specs.Equality.{is_same}
use Rattle.value_types.specs.declared.hash.Hash.{Hash}
use Rattle.ledger_types.specs.Entry.{key_of}
use Rattle.ledger_types.specs.Equality.{coded_entry}
use Rattle.ledger_types.specs.declared.entry.LedgerEntry.{LedgerEntry}
use Rattle.ledger_types.specs.declared.record.TtlEntry.{TtlEntry}
use Rattle.ledger_types.specs.declared.key.LedgerKey.{LedgerKey}
use Rattle.ledger_types.specs.declared.key.LedgerKey.TheVariants as keyed
use Rattle.ledger_spec.specs.declared.Kept.{Kept}
use Rattle.ledger_spec.specs.LedgerMap.{key_bytes}
use Rattle.ledger_spec.specs.LedgerFile.{has_code_hash, is_above}
use Rattle.change_log.specs.Log.{Changes}
use Rattle.change_log.specs.Groups.{Group, made, gone, altered, bytes_of}
use Rattle.change_log.specs.declared.entry.LoggedEntry.TheVariants.{Entry, Ttl}
use Rattle.change_log.specs.declared.change.LedgerEntryChange.{LedgerEntryChange}
use Rattle.change_log.specs.declared.change.LedgerEntryChange.TheVariants.{Created, Updated, Removed, State}

-- ---- tests

-- the hash is that of the entry's key
abbrev pub is_hash : LedgerEntry → Hash → Bool
is_hash entry hash = bytes_eq hash.0 (sha256 (key_bytes (key_of entry)))

-- the key is that of the entry
abbrev pub is_key : LedgerEntry → LedgerKey → Bool
is_key entry key = bytes_eq (key_bytes key) (key_bytes (key_of entry))

-- the key is that of the TTL entry of the entry
abbrev pub is_ttl_key : LedgerEntry → LedgerKey → Bool
is_ttl_key entry (keyed.Ttl hash) = is_hash entry hash
is_ttl_key entry (keyed.Account account) = false
is_ttl_key entry (keyed.Trustline account asset) = false
is_ttl_key entry (keyed.Offer seller offer) = false
is_ttl_key entry (keyed.Data account name) = false
is_ttl_key entry (keyed.ClaimableBalance id) = false
is_ttl_key entry (keyed.LiquidityPool id) = false
is_ttl_key entry (keyed.ContractData contract key durability) = false
is_ttl_key entry (keyed.ContractCode hash) = false

-- another entry at the same key, whose code hash is right
abbrev pub is_update : LedgerEntry → LedgerEntry → Bool
is_update old new = is_key old (key_of new) && not (is_same coded_entry old new) && has_code_hash new.data

-- the TTL entry of the entry, with another live-until ledger than this one
abbrev pub is_ttl_update : LedgerEntry → ℕ → TtlEntry → Bool
is_ttl_update entry live_until ttl = is_hash entry ttl.key_hash && not (live_until == ttl.live_until_ledger_seq)

-- ---- a group that is being read

-- what has been read of a group
pub data Partial : Type 0 where
  nothing : Partial
  created : LedgerEntry → Partial  -- an entry that is created
  stated : LedgerEntry → Partial  -- the state of an entry
  held : Kept → Partial  -- the states of an entry and of its TTL entry
  removed : Kept → Partial  -- these states, and the removed key
  updated : Kept → LedgerEntry → Partial  -- these states, and the update of the entry, which may be all

-- a group that is complete, if one is, and what has been read after it
pub record Progress : Type 0 where
  pub done : List Group
  pub partial : Partial

-- the entry with this TTL entry
abbrev pub kept_by : LedgerEntry → TtlEntry → Kept
kept_by entry ttl = record { entry = entry; live_until = ttl.live_until_ledger_seq }

-- a step after these groups, if the test holds
abbrev pub progress_if : Bool → List Group → Partial → Option Progress
progress_if test done partial = if test then Some (record { done = done; partial = partial }) else None

-- the first change of a group
abbrev pub begin : List Group → LedgerEntryChange → Option Progress
begin done (Created (Entry entry)) = progress_if (has_code_hash entry.data) done (created entry)
begin done (State (Entry entry)) = progress_if (has_code_hash entry.data) done (stated entry)
begin done (Created (Ttl ttl)) = None
begin done (State (Ttl ttl)) = None
begin done (Updated entry) = None
begin done (Removed key) = None

-- the TTL entry of a created entry
abbrev pub end_made : LedgerEntry → LedgerEntryChange → Option Progress
end_made entry (Created (Ttl ttl)) = progress_if (is_hash entry ttl.key_hash) (made (kept_by entry ttl) ∷ []) nothing
end_made entry (Created (Entry e)) = None
end_made entry (Updated e) = None
end_made entry (Removed key) = None
end_made entry (State e) = None

-- the state of the TTL entry of an entry
abbrev pub hold : LedgerEntry → LedgerEntryChange → Option Progress
hold entry (State (Ttl ttl)) = progress_if (is_hash entry ttl.key_hash) [] (held (kept_by entry ttl))
hold entry (State (Entry e)) = None
hold entry (Created e) = None
hold entry (Updated e) = None
hold entry (Removed key) = None

-- what follows the states of an entry and of its TTL entry
abbrev pub alter : Kept → LedgerEntryChange → Option Progress
alter old (Removed key) = progress_if (is_key old.entry key) [] (removed old)
alter old (Updated (Entry entry)) = progress_if (is_update old.entry entry) [] (updated old entry)
alter old (Updated (Ttl ttl)) =
    progress_if (is_ttl_update old.entry old.live_until ttl) (altered old (kept_by old.entry ttl) ∷ []) nothing
alter old (Created e) = None
alter old (State e) = None

-- the removed key of the TTL entry
abbrev pub end_gone : Kept → LedgerEntryChange → Option Progress
end_gone old (Removed key) = progress_if (is_ttl_key old.entry key) (gone old ∷ []) nothing
end_gone old (Created e) = None
end_gone old (Updated e) = None
end_gone old (State e) = None

-- the updated entry lives as long as the old one
abbrev pub altered_entry : Kept → LedgerEntry → Group
altered_entry old entry = altered old (record { entry = entry; live_until = old.live_until })

-- after the update of an entry: the update of its TTL entry, or the next group
abbrev pub end_altered : Kept → LedgerEntry → LedgerEntryChange → Option Progress
end_altered old entry (Updated (Ttl ttl)) =
    progress_if (is_ttl_update old.entry old.live_until ttl) (altered old (kept_by entry ttl) ∷ []) nothing
end_altered old entry (Updated (Entry e)) = None
end_altered old entry (Removed key) = None
end_altered old entry (Created e) = begin (altered_entry old entry ∷ []) (Created e)
end_altered old entry (State e) = begin (altered_entry old entry ∷ []) (State e)

-- reads one change
abbrev pub step : Partial → LedgerEntryChange → Option Progress
step nothing change = begin [] change
step (created entry) change = end_made entry change
step (stated entry) change = hold entry change
step (held old) change = alter old change
step (removed old) change = end_gone old change
step (updated old entry) change = end_altered old entry change

-- the last group, at the end of the list
abbrev pub finish : Partial → Option (List Group)
finish nothing = Some []
finish (updated old entry) = Some (altered_entry old entry ∷ [])
finish (created entry) = None
finish (stated entry) = None
finish (held old) = None
finish (removed old) = None

-- ---- lists

-- groups before others, if there are others
abbrev pub with_first : List Group → Option (List Group) → Option (List Group)
with_first done None = None
with_first done (Some rest) = Some (done ++ rest)

-- the groups of a list of changes that follows what has been read
abbrev pub read_from : Partial → Changes → Option (List Group)
read_from partial [] = finish partial
read_from partial (change ∷ rest) =
    option_and_then (λ (s : Progress). with_first s.done (read_from s.partial rest)) (step partial change)

-- the keys rise strictly by their XDR bytes, after this one
abbrev pub rise_after : Option (List ℕ) → List Group → Bool
rise_after before [] = true
rise_after before (group ∷ groups) = is_above before (bytes_of group) && rise_after (Some (bytes_of group)) groups

-- The groups that a list of changes consists of, if their keys rise.
abbrev pub groups_in : Changes → Option (List Group)
groups_in list = option_and_then (λ (gs : List Group). if rise_after None gs then Some gs else None) (read_from nothing list)
