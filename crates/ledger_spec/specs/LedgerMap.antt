-- The entries of a ledger as a map (own; keys and entries are those of the Stellar XDR files).
use Rattle.std.specs.Prelude.{◌≡◌, ◌<◌, ◌^◌, ℕ, List, All, Option}
use Rattle.std.specs.Ordering.{nat_cmp}
use Rattle.std.specs.FinMap.{FinMap, get, entries, len}
use Rattle.std.specs.Cmp.Lexicographic.{slice_cmp}
use Rattle.sha2.specs.Sha256.{sha256}
use Rattle.ledger_types.specs.Key.{key_format}
use Rattle.ledger_types.specs.Entry.{key_of, entry_format}
use Rattle.ledger_types.specs.declared.key.LedgerKey.{LedgerKey}
use Rattle.ledger_types.specs.declared.entry.LedgerEntryData.{LedgerEntryData}
use Rattle.ledger_types.specs.declared.entry.LedgerEntryData.TheVariants.{ContractData, ContractCode}
use Rattle.ledger_spec.specs.declared.Kept.{Kept}

-- from the XDR bytes of a key to the entry there and its live-until ledger, sorted by these bytes
abbrev pub LedgerMap : Type 0
LedgerMap = FinMap (slice_cmp nat_cmp) Kept

-- the XDR bytes of a key
abbrev pub key_bytes : LedgerKey → List ℕ
key_bytes key = key_format.spell key

-- the entry at a key, if the map has one
abbrev pub find : LedgerMap → LedgerKey → Option Kept
find map key = get map (key_bytes key)

-- the hash of a code entry is the SHA-256 of its code
abbrev pub HasCodeHash : LedgerEntryData → Type 0
HasCodeHash (ContractData entry) = Unit {0}
HasCodeHash (ContractCode entry) = entry.hash.0 ≡ sha256 entry.code

-- The entry at these bytes is within its XDR format, these are the bytes of its key, and a code entry's hash is right.
pub record IsKeptAt (bytes : List ℕ) (kept : Kept) : Type 0 where
  pub fits : entry_format.fits kept.entry
  pub numbered : kept.live_until < 2 ^ 32
  pub keyed : bytes ≡ key_bytes (key_of kept.entry)
  pub hashed : HasCodeHash kept.entry.data

-- a map of ledger entries, fewer than 2 ^ 32
pub record IsLedgerMap (map : LedgerMap) : Type 0 where
  pub each : All (λ e. IsKeptAt e.0 e.1) (entries map)
  pub few : len map < 2 ^ 32
