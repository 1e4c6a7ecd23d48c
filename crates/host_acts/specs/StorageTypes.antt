-- The types of storage.
use Rattle.std.specs.Prelude.{◌≡◌, ◌≤◌, ℕ, Result, Ok, Err}
use Rattle.ledger_types.specs.declared.durability.Durability.TheVariants.{Temporary, Persistent}
use Rattle.host_spec.specs.declared.error.HostErr.{HostErr}
use Rattle.host_spec.specs.declared.error.HostErr.TheVariants as ends
use Rattle.call_spec.specs.Errors.{INVALID_STORAGE_INPUT}
use Rattle.host_acts.specs.declared.storage_types.StorageType.{StorageType}
use Rattle.host_acts.specs.declared.storage_types.StorageType.TheVariants as storage_types

-- the storage type that a word names
abbrev pub IsStorageType : Result StorageType HostErr → ℕ → Type 0
IsStorageType (Ok (storage_types.Ledger Temporary)) kind = kind ≡ 0
IsStorageType (Ok (storage_types.Ledger Persistent)) kind = kind ≡ 1
IsStorageType (Ok storage_types.Instance) kind = kind ≡ 2
IsStorageType (Err e) kind = (e ≡ ends.Failed INVALID_STORAGE_INPUT) × (3 ≤ kind)
