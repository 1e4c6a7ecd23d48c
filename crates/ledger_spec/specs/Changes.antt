-- Changes of a ledger's map in ledger n (own, after CAP-0046-12: state archival).
use Rattle.std.specs.Prelude.{ℕ, ◌+◌, ◌-◌, Bool, true, false, ◌&&◌, Option, Some, None, Result, Ok, Err, max, nat_lt, nat_le}
use Rattle.std.specs.Prelude.{if◌then◌else◌}
use Rattle.std.specs.FinMap.{insert, remove}
use Rattle.ledger_types.specs.Entry.{key_of}
use Rattle.ledger_types.specs.declared.key.LedgerKey.{LedgerKey}
use Rattle.ledger_types.specs.declared.entry.LedgerEntry.{LedgerEntry}
use Rattle.ledger_types.specs.declared.header.Settings.{Settings}
use Rattle.ledger_spec.specs.declared.Kept.{Kept}
use Rattle.ledger_spec.specs.LedgerMap.{LedgerMap, find, key_bytes}
use Rattle.ledger_spec.specs.Seen.{Seen, live, absent, archived, seen, is_temporary}

-- the TTL of a new entry, in ledgers
abbrev pub least_life : Settings → LedgerEntry → ℕ
least_life settings entry = if is_temporary entry.data then settings.min_temporary_ttl else settings.min_persistent_ttl

-- the live-until ledger of a new entry
abbrev pub first_life : Settings → ℕ → LedgerEntry → ℕ
first_life settings n entry = n + least_life settings entry - 1

-- the last ledger that an extension may reach, counted from n
abbrev pub furthest : Settings → ℕ → ℕ
furthest settings n = n + settings.max_entry_ttl - 1

-- the entry, last modified in ledger n
abbrev pub written : ℕ → LedgerEntry → LedgerEntry
written n entry = record entry { last_modified_ledger_seq = n }

-- A put writes an entry at its key. A live entry keeps its live-until ledger. An absent one gets its first life, which
-- replaces an expired temporary entry. If the key is archived, there is no map: that access ends the run.
abbrev pub put_seen : Seen → Settings → ℕ → LedgerMap → LedgerEntry → Option LedgerMap
put_seen (live kept) settings n map entry =
    Some (insert map (key_bytes (key_of entry)) (record { entry = written n entry; live_until = kept.live_until }))
put_seen absent settings n map entry =
    Some (insert map (key_bytes (key_of entry)) (record { entry = written n entry; live_until = first_life settings n entry }))
put_seen archived settings n map entry = None

-- a put in ledger n, by what the access finds at the entry's key
abbrev pub put : Settings → ℕ → LedgerMap → LedgerEntry → Option LedgerMap
put settings n map entry = put_seen (seen n map (key_of entry)) settings n map entry

-- A delete removes a live entry. The record of an expired temporary entry stays, since that key is absent already.
abbrev pub delete_seen : Seen → LedgerMap → LedgerKey → Option LedgerMap
delete_seen (live kept) map key = Some (remove map (key_bytes key))
delete_seen absent map key = Some map
delete_seen archived map key = None

-- a delete in ledger n, by what the access finds at the key
abbrev pub delete : ℕ → LedgerMap → LedgerKey → Option LedgerMap
delete n map key = delete_seen (seen n map key) map key

-- A make creates an entry with a given live-until ledger: a nonce, or the instance of a new contract. If the key is live,
-- the make is false and the map stays. If the key is archived, there is no map: that access ends the run.
abbrev pub make_seen : Seen → ℕ → LedgerMap → LedgerEntry → ℕ → Option (Bool × LedgerMap)
make_seen (live kept) n map entry live_until = Some (false, map)
make_seen absent n map entry live_until =
    Some (true, insert map (key_bytes (key_of entry)) (record { entry = written n entry; live_until = live_until }))
make_seen archived n map entry live_until = None

-- a make in ledger n, by what the access finds at the entry's key
abbrev pub make : ℕ → LedgerMap → LedgerEntry → ℕ → Option (Bool × LedgerMap)
make n map entry live_until = make_seen (seen n map (key_of entry)) n map entry live_until

-- why an extension fails
pub data Unextended : Type 0 where
  backward : Unextended  -- the threshold is above extend_to: (STORAGE, INVALID_INPUT)
  missing : Unextended  -- there is no live entry: (STORAGE, MISSING_VALUE)
  -- a temporary entry would live beyond the furthest, whatever the threshold says: (STORAGE, INVALID_ACTION)
  too_far : Unextended
  in_archive : Unextended  -- the entry is archived: that access ends the run

-- the live-until ledger that an extension asks for: persistent data and code are capped at the furthest
abbrev pub asked_life : Settings → ℕ → LedgerEntry → ℕ → Option ℕ
asked_life settings n entry extend_to =
    if nat_le (n + extend_to) (furthest settings n) then Some (n + extend_to)
    else if is_temporary entry.data then None
    else Some (furthest settings n)

-- the live-until ledger rises to this one, if it is below it and at most `threshold` ledgers are left
abbrev pub longer : ℕ → Kept → ℕ → ℕ → Kept
longer n kept threshold life =
    if nat_lt kept.live_until life && nat_le (kept.live_until - n) threshold then record kept { live_until = life } else kept

-- the extension of a live entry, unless the requested life is too long
abbrev pub extend_live : Option ℕ → ℕ → LedgerMap → LedgerKey → Kept → ℕ → Result LedgerMap Unextended
extend_live None n map key kept threshold = Err too_far
extend_live (Some life) n map key kept threshold = Ok (insert map (key_bytes key) (longer n kept threshold life))

-- an extension, by what the access finds at the key
abbrev pub extend_seen : Seen → Settings → ℕ → LedgerMap → LedgerKey → ℕ → ℕ → Result LedgerMap Unextended
extend_seen (live kept) settings n map key threshold extend_to =
    extend_live (asked_life settings n kept.entry extend_to) n map key kept threshold
extend_seen absent settings n map key threshold extend_to = Err missing
extend_seen archived settings n map key threshold extend_to = Err in_archive

-- An extension in ledger n: if at most `threshold` ledgers are left, the entry is to live until ledger n + extend_to.
abbrev pub extend : Settings → ℕ → LedgerMap → LedgerKey → ℕ → ℕ → Result LedgerMap Unextended
extend settings n map key threshold extend_to =
    if nat_lt extend_to threshold then Err backward
    else extend_seen (seen n map key) settings n map key threshold extend_to

-- The greater live-until ledger stays. The entry itself is not written, and an absent key stays absent.
abbrev pub raised : Option Kept → LedgerMap → LedgerKey → ℕ → LedgerMap
raised None map key live_until = map
raised (Some kept) map key live_until = insert map (key_bytes key) (record kept { live_until = max kept.live_until live_until })

-- the entry at a key, if there is one, lives until this ledger at least
abbrev pub raise : LedgerMap → LedgerKey → ℕ → LedgerMap
raise map key live_until = raised (find map key) map key live_until
