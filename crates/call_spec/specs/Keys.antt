-- The keys and entries of a contract's data, its instance and its code (CAP-0046-02 and CAP-0046-05).
use Rattle.std.specs.Prelude.{ℕ, List, Option, Some, None}
use Rattle.value_types.specs.Datum.{Datum, bare_instance, instance, members_of}
use Rattle.value_types.specs.Views.{scval}
use Rattle.value_types.specs.declared.hash.Hash.{Hash}
use Rattle.value_types.specs.declared.address.ScAddress.TheVariants.{Contract}
use Rattle.value_types.specs.declared.executable.Executable.TheVariants.{Wasm}
use Rattle.value_types.specs.declared.value.ScVal.{ScVal}
use Rattle.value_types.specs.declared.value.ScVal.TheVariants.{LedgerKeyContractInstance}
use Rattle.ledger_types.specs.declared.durability.Durability.{Durability}
use Rattle.ledger_types.specs.declared.durability.Durability.TheVariants.{Persistent}
use Rattle.ledger_types.specs.declared.key.LedgerKey.{LedgerKey}
use Rattle.ledger_types.specs.declared.key.LedgerKey.TheVariants as keys
use Rattle.ledger_types.specs.declared.entry.LedgerEntry.{LedgerEntry}
use Rattle.ledger_types.specs.declared.entry.LedgerEntryData.TheVariants as entries
use Rattle.host_spec.specs.MapRows.{Member}
use Rattle.call_spec.specs.World.{Copied}

-- ---- data

abbrev pub data_key_of : Hash → ScVal → Durability → LedgerKey
data_key_of contract key durability = keys.ContractData (Contract contract) key durability

abbrev pub data_entry_of : ℕ → Hash → ScVal → Durability → ScVal → LedgerEntry
data_entry_of n contract key durability val = record {
  last_modified_ledger_seq = n;
  «data» = entries.ContractData (record { contract = Contract contract; key = key; durability = durability; val = val });
}

-- the key of a contract's data
abbrev pub data_key : Hash → Datum → Durability → LedgerKey
data_key contract key durability = data_key_of contract (scval key) durability

-- the entry of a contract's data, modified in ledger n
abbrev pub data_entry : ℕ → Hash → Datum → Durability → Datum → LedgerEntry
data_entry n contract key durability value = data_entry_of n contract (scval key) durability (scval value)

-- ---- instances

abbrev pub instance_key : Hash → LedgerKey
instance_key contract = data_key_of contract LedgerKeyContractInstance Persistent

-- the value of an instance
abbrev pub instance_with : Hash → Option (List Member) → Datum
instance_with code None = bare_instance (Wasm code)
instance_with code (Some members) = instance (Wasm code) (members_of members)

abbrev pub instance_of : Copied → Datum
instance_of copy = instance_with copy.code copy.storage

-- the entry of an instance, modified in ledger n
abbrev pub instance_entry : ℕ → Hash → Copied → LedgerEntry
instance_entry n contract copy = data_entry_of n contract LedgerKeyContractInstance Persistent (scval (instance_of copy))

-- ---- code

abbrev pub code_key : Hash → LedgerKey
code_key hash = keys.ContractCode hash

-- the entry of a code, modified in ledger n
abbrev pub code_entry : ℕ → Hash → List ℕ → LedgerEntry
code_entry n hash code =
    record { last_modified_ledger_seq = n; «data» = entries.ContractCode (record { hash = hash; code = code }) }
