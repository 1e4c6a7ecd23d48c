-- The contracts of a generated ledger (own). Each has a counter, to which its function `bump` adds 1.
use Rattle.std.specs.Prelude.{ℕ, [], ◌∷◌, ◌++◌, codes}
use Rattle.sha2.specs.Sha256.{sha256}
use Rattle.xdr_spec.specs.Format.{zeros}
use Rattle.ledger_types.specs.declared.durability.Durability.TheVariants.{Persistent}
use Rattle.ledger_types.specs.declared.key.LedgerKey.{LedgerKey}
use Rattle.ledger_types.specs.declared.key.LedgerKey.TheVariants as keys
use Rattle.value_types.specs.declared.address.ScAddress.{ScAddress}
use Rattle.value_types.specs.declared.address.ScAddress.TheVariants as addresses
use Rattle.value_types.specs.declared.hash.Hash.{Hash}
use Rattle.value_types.specs.declared.value.ScVal.{ScVal}
use Rattle.value_types.specs.declared.value.ScVal.TheVariants as values
use Rattle.set_generator.specs.declared.contracts.TheConstants.{BUMP}

-- the SHA-256 of the contracts' module
unfoldable pub bump_hash : Hash
bump_hash = record { 0 = sha256 BUMP }

-- the address of a contract: its number in the last of 32 bytes
abbrev pub address : ℕ → ScAddress
address number = addresses.Contract (record { 0 = zeros 31 ++ number ∷ [] })

-- the name of the counter
abbrev pub counter : ScVal
counter = values.Symbol (codes "ab")

-- the key of a contract's instance
abbrev pub instance_key : ℕ → LedgerKey
instance_key number = keys.ContractData (address number) values.LedgerKeyContractInstance Persistent

-- the key of a contract's counter
abbrev pub counter_key : ℕ → LedgerKey
counter_key number = keys.ContractData (address number) counter Persistent

-- the key of the module
abbrev pub code_key : LedgerKey
code_key = keys.ContractCode bump_hash
