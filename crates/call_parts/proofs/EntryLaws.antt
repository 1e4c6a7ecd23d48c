-- Entries of instances and codes have a spelling.
use Rattle.std.proofs.Common.{◌≡◌, ℕ, ◌<◌, ◌^◌, List, length, Option, Some, None, refl, sym, ap, arith}
use Rattle.xdr_spec.specs.Format.{IsBytes, number32, opaque}
use Rattle.value_types.specs.Address.{address_format}
use Rattle.value_types.specs.Executable.{executable_format}
use Rattle.value_types.specs.Hash.{hash_format}
use Rattle.value_types.specs.Formats.{scval_format}
use Rattle.value_types.proofs.Lemmas.{members_there}
use Rattle.value_types.specs.declared.hash.Hash.{Hash}
use Rattle.value_types.specs.declared.address.ScAddress.TheVariants.{Contract}
use Rattle.value_types.specs.declared.executable.Executable.TheVariants.{Wasm}
use Rattle.value_types.specs.declared.value.ScVal.{ScVal}
use Rattle.value_types.specs.declared.value.ScVal.TheVariants.{ContractInstance, LedgerKeyContractInstance}
use Rattle.ledger_types.specs.Entry.{entry_format, body_format}
use Rattle.ledger_types.specs.ContractEntries.{data_format, code_format}
use Rattle.ledger_types.specs.declared.durability.Durability.TheVariants.{Persistent}
use Rattle.ledger_types.specs.declared.entry.LedgerEntry.{LedgerEntry}
use Rattle.host_spec.specs.MapRows.{Member}
use Rattle.call_spec.specs.Keys.{data_entry_of, instance_entry, code_entry}
use Rattle.host_ledger.specs.Worlds.{IsHeld}
use Rattle.host_frame.proofs.Lemmas.{shallow_fits}
use Rattle.host_ledger.proofs.Lemmas.{durability_fits}

-- the value of an instance
abbrev pub instance_value : Hash → Option (List Member) → ScVal
instance_value code storage = ContractInstance (record { executable = Wasm code; storage = storage })

-- the entry of an instance with this value
abbrev pub entry_with : ℕ → Hash → Hash → Option (List Member) → LedgerEntry
entry_with n contract code storage = data_entry_of n contract LedgerKeyContractInstance Persistent (instance_value code storage)

-- It is the entry of the definitions.
pub instance_same : (n : ℕ) (contract code : Hash) (storage : Option (List Member)) → entry_with n contract code storage ≡ instance_entry n contract (record { code = code; storage = storage })
instance_same n contract code None = refl
instance_same n contract code (Some ms) = ap (λ (x : List Member). entry_with n contract code (Some x)) (sym (members_there ms))

executable_fits : (code : Hash) → hash_format.fits code → executable_format.fits (Wasm code)
unfolding executable_format
executable_fits code h = h

value_fits : (code : Hash) (storage : Option (List Member)) → hash_format.fits code → IsHeld storage → scval_format.fits (instance_value code storage)
value_fits code None h k = shallow_fits (instance_value code None) (executable_fits code h) (omega arith)
value_fits code (Some ms) h k = shallow_fits (instance_value code (Some ms)) (executable_fits code h, k.made.bounded.0, k.made.bounded.1) (omega (arith, k.shallow))

pub instance_entry_fits : (n : ℕ) (contract code : Hash) (storage : Option (List Member)) → n < 2 ^ 32 → address_format.fits (Contract contract) → hash_format.fits code → IsHeld storage
    → entry_format.fits (entry_with n contract code storage)
unfolding entry_format body_format data_format number32
instance_entry_fits n contract code storage small a h k =
    (small, ((a, (shallow_fits LedgerKeyContractInstance tt (omega arith), (durability_fits Persistent, value_fits code storage h k))), refl))

pub code_entry_fits : (n : ℕ) (hash : Hash) (code : List ℕ) → n < 2 ^ 32 → hash_format.fits hash → IsBytes code → length code < 2 ^ 32 → entry_format.fits (code_entry n hash code)
unfolding entry_format body_format code_format number32 opaque
code_entry_fits n hash code small h b few = (small, ((h, (omega (arith, few), omega (arith, few), b)), refl))
