-- Terms of the laws of puts, deletes, makes, extensions and raises (own).
use Rattle.std.specs.Prelude.{◌≡◌, ◌≢◌, ◌<◌, ◌≤◌, ℕ, ◌+◌, ◌-◌, ◌^◌, Bool, true, Option, Some, IsSomeAnd}
use Rattle.std.specs.FinMap.{len}
use Rattle.ledger_types.specs.Entry.{key_of, entry_format}
use Rattle.ledger_types.specs.declared.key.LedgerKey.{LedgerKey}
use Rattle.ledger_types.specs.declared.durability.Durability.TheVariants.{Temporary}
use Rattle.ledger_types.specs.declared.entry.LedgerEntry.{LedgerEntry}
use Rattle.ledger_types.specs.declared.entry.LedgerEntryData.{LedgerEntryData}
use Rattle.ledger_types.specs.declared.entry.LedgerEntryData.TheVariants.{ContractData, ContractCode}
use Rattle.ledger_types.specs.declared.header.Settings.{Settings}
use Rattle.ledger_spec.specs.declared.Kept.{Kept}
use Rattle.ledger_spec.specs.LedgerMap.{LedgerMap, find, key_bytes, HasCodeHash, IsLedgerMap}
use Rattle.ledger_spec.specs.Seen.{live, absent, archived, seen}
use Rattle.ledger_spec.specs.Changes.{Unextended, backward, missing, too_far, in_archive}

-- contract data whose durability is temporary
abbrev pub IsTemporary : LedgerEntryData → Type 0
IsTemporary (ContractData entry) = entry.durability ≡ Temporary
IsTemporary (ContractCode entry) = ⊥

-- the last of this many ledgers, counted from n on
abbrev pub last_of : ℕ → ℕ → ℕ
last_of n ledgers = n + ledgers - 1

-- the same entry with another live-until ledger
abbrev pub living_until : ℕ → Kept → Kept
living_until live_until kept = record kept { live_until = live_until }

-- the entries at all keys but this one stay
abbrev pub OthersStay : LedgerKey → LedgerMap → LedgerMap → Type 0
OthersStay changed before after = (key : LedgerKey) → key_bytes key ≢ key_bytes changed → find after key ≡ find before key

-- The put succeeded. In ledger n the entry is live in the new map until this ledger, with n as its last modified ledger.
abbrev pub IsPut : ℕ → LedgerEntry → ℕ → Option LedgerMap → Type 0
IsPut n entry live_until after =
    IsSomeAnd after
    (λ map. seen n map (key_of entry)
    ≡ live (record { entry = record entry { last_modified_ledger_seq = n }; live_until = live_until }))

-- The make succeeded. The new map has the entry, with n as its last modified ledger and with this live-until ledger.
abbrev pub IsMade : ℕ → LedgerEntry → ℕ → Option (Bool × LedgerMap) → Type 0
IsMade n entry live_until made =
    IsSomeAnd made (λ m. (m.0 ≡ true)
    × (find m.1 (key_of entry)
    ≡ Some (record { entry = record entry { last_modified_ledger_seq = n }; live_until = live_until })))

-- A ledger's map can get this entry in ledger n: the entry is within its XDR format and a code's hash is right, and the map
-- has room for one entry more.
pub record CanGet (n : ℕ) (map : LedgerMap) (entry : LedgerEntry) : Type 0 where
  pub map-is : IsLedgerMap map
  pub room : len map + 1 < 2 ^ 32
  pub fits : entry_format.fits entry
  pub hashed : HasCodeHash entry.data
  pub numbered : n < 2 ^ 32

-- An extension fails for this reason. The threshold is tested first, then what the access finds, then the requested life.
abbrev pub IsReason : Unextended → Settings → ℕ → LedgerMap → LedgerKey → ℕ → ℕ → Type 0
IsReason backward settings n map key threshold extend_to = extend_to < threshold
IsReason missing settings n map key threshold extend_to = (threshold ≤ extend_to) × (seen n map key ≡ absent)
IsReason too_far settings n map key threshold extend_to =
    (kept : Kept) × (threshold ≤ extend_to) × (seen n map key ≡ live kept) × IsTemporary kept.entry.data
    × (last_of n settings.max_entry_ttl < n + extend_to)
IsReason in_archive settings n map key threshold extend_to = (threshold ≤ extend_to) × (seen n map key ≡ archived)
