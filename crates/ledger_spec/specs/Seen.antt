-- What an access finds at a key in the ledger that is being made (own, after CAP-0046-12: state archival).
use Rattle.std.specs.Prelude.{ℕ, Bool, true, false, Option, Some, None, nat_le, if◌then◌else◌}
use Rattle.ledger_types.specs.declared.key.LedgerKey.{LedgerKey}
use Rattle.ledger_types.specs.declared.durability.Durability.{Durability}
use Rattle.ledger_types.specs.declared.durability.Durability.TheVariants.{Temporary, Persistent}
use Rattle.ledger_types.specs.declared.entry.LedgerEntryData.{LedgerEntryData}
use Rattle.ledger_types.specs.declared.entry.LedgerEntryData.TheVariants.{ContractData, ContractCode}
use Rattle.ledger_spec.specs.declared.Kept.{Kept}
use Rattle.ledger_spec.specs.LedgerMap.{LedgerMap, find}

-- the three states of a key
pub data Seen : Type 0 where
  live : Kept → Seen
  absent : Seen
  archived : Seen

-- the durability is temporary
abbrev pub is_temporary_at : Durability → Bool
is_temporary_at Temporary = true
is_temporary_at Persistent = false

-- contract data may be temporary, code is not
abbrev pub is_temporary : LedgerEntryData → Bool
is_temporary (ContractData entry) = is_temporary_at entry.durability
is_temporary (ContractCode entry) = false

-- An entry is live up to and including its live-until ledger. After that ledger a temporary entry counts as absent, and
-- any other is archived.
abbrev pub seen_of : ℕ → Option Kept → Seen
seen_of n None = absent
seen_of n (Some kept) =
    if nat_le n kept.live_until then live kept
    else if is_temporary kept.entry.data then absent
    else archived

-- what an access in ledger n finds at a key of the map
abbrev pub seen : ℕ → LedgerMap → LedgerKey → Seen
seen n map key = seen_of n (find map key)
