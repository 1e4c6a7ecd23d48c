-- What a call or a create finds in the ledger: an instance and a module (own, after CAP-0046-02).
use Rattle.std.specs.Prelude.{ℕ, List, Option, Some, None, Result, Ok, Err}
use Rattle.budget_meter.specs.declared.kind.Kind.TheVariants.{ValDeser}
use Rattle.value_types.specs.Datum.{Datum, Members, list_of_members, map, bare_instance, instance}
use Rattle.value_types.specs.Views.{datum}
use Rattle.value_types.specs.declared.error.ScError.{ScError}
use Rattle.value_types.specs.declared.hash.Hash.{Hash}
use Rattle.value_types.specs.declared.executable.Executable.TheVariants.{Wasm, StellarAsset}
use Rattle.ledger_types.specs.declared.entry.LedgerEntryData.{LedgerEntryData}
use Rattle.ledger_types.specs.declared.entry.LedgerEntryData.TheVariants.{ContractData, ContractCode}
use Rattle.ledger_spec.specs.declared.Kept.{Kept}
use Rattle.wasm_spec.specs.declared.module.Module.{Module}
use Rattle.wasm_spec.specs.Stores.{Store}
use Rattle.wasm_spec.specs.Instances.{Start, Missing, WrongArity, Segment, Ready}
use Rattle.host_spec.specs.Hosted.{entry}
use Rattle.call_spec.specs.Errors.{NO_ENTRY, NO_INSTANCE, NOT_WASM, NO_MODULE, NO_FUNCTION, OTHER_ARITY, SEGMENT_OUTSIDE}
use Rattle.call_spec.specs.World.{Read, Copied, Env}
use Rattle.call_spec.specs.Acts.{Act, fails}
use Rattle.call_spec.specs.Accesses.{Effect, answers, refuses, costs, access, entry_size}
use Rattle.call_spec.specs.Keys.{instance_key, code_key}

-- ---- the instance

-- instance storage has to be a map that may enter the host
abbrev pub with_entered : Hash → Members → Result Datum ScError → Effect Copied
with_entered code ms (Err e) = refuses e
with_entered code ms (Ok d) = answers (record { code = code; storage = Some (list_of_members ms) })

abbrev pub instance_in : Datum → Effect Copied
instance_in (bare_instance (Wasm code)) = answers (record { code = code; storage = None })
instance_in (instance (Wasm code) ms) = with_entered code ms (entry (map ms))
instance_in (bare_instance StellarAsset) = refuses NOT_WASM
instance_in (instance StellarAsset ms) = refuses NOT_WASM
instance_in _ = refuses NO_INSTANCE

abbrev pub instance_of_data : LedgerEntryData → Effect Copied
instance_of_data (ContractData data_entry) = instance_in (datum data_entry.val)
instance_of_data (ContractCode code_entry) = refuses NO_INSTANCE

-- the charge for a live entry comes before its value is looked at
abbrev pub finds_instance : Option Kept → Effect Copied
finds_instance None = refuses NO_ENTRY
finds_instance (Some kept) = costs ValDeser (entry_size kept.entry) (instance_of_data kept.entry.data)

-- the instance of a contract
abbrev pub instance_at : Env → Hash → Act Copied
instance_at env contract = access env Read (instance_key contract) finds_instance

-- ---- the code

abbrev pub code_of_data : LedgerEntryData → Effect (List ℕ)
code_of_data (ContractCode code_entry) = answers code_entry.code
code_of_data (ContractData data_entry) = refuses NO_ENTRY

abbrev pub finds_code : Option Kept → Effect (List ℕ)
finds_code None = refuses NO_ENTRY
finds_code (Some kept) = code_of_data kept.entry.data

-- the code with a hash
abbrev pub code_at : Env → Hash → Act (List ℕ)
code_at env hash = access env Read (code_key hash) finds_code

-- the valid, linked module that a code encodes
abbrev pub with_module : {A : Type 0} → Option Module → (Module → Act A) → Act A
with_module None next = fails NO_MODULE
with_module (Some m) next = next m

-- the function's index and the initial store, or the first test that fails
abbrev pub with_start : {A : Type 0} → Start → (ℕ → Store → Act A) → Act A
with_start Missing next = fails NO_FUNCTION
with_start WrongArity next = fails OTHER_ARITY
with_start Segment next = fails SEGMENT_OUTSIDE
with_start (Ready index store) next = next index store
