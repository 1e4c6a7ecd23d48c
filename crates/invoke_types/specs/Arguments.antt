-- What a contract is called with, and what it is made of (XDR file Stellar-transaction, `InvokeContractArgs`,
-- `CreateContractArgs` and `CreateContractArgsV2`).
use Rattle.std.specs.Prelude.{List, ℕ, refl}
use Rattle.xdr_spec.specs.Format.{Format, via, pair, list, opaque}
use Rattle.xdr_spec.specs.Laws.{IsFormat}
use Rattle.xdr_spec.proofs.Lemmas.{list_lawful, opaque_lawful, pair_lawful, via_lawful}
use Rattle.value_types.specs.Address.{address_format, address_lawful}
use Rattle.value_types.specs.Executable.{executable_format, executable_lawful}
use Rattle.value_types.specs.Formats.{scval_format}
use Rattle.value_types.proofs.Lemmas.{scval_lawful}
use Rattle.value_types.specs.declared.address.ScAddress.{ScAddress}
use Rattle.value_types.specs.declared.executable.Executable.{Executable}
use Rattle.value_types.specs.declared.value.ScVal.{ScVal}
use Rattle.invoke_types.specs.Preimage.{preimage_format, preimage_lawful}
use Rattle.invoke_types.specs.declared.preimage.Preimage.{Preimage}
use Rattle.invoke_types.specs.declared.arguments.InvokeContractArgs.{InvokeContractArgs}
use Rattle.invoke_types.specs.declared.arguments.CreateContractArgs.{CreateContractArgs}
use Rattle.invoke_types.specs.declared.arguments.CreateContractArgsV2.{CreateContractArgsV2}

-- values in a row, each of which stands alone
abbrev pub values_format : Format (List ScVal)
values_format = list 4294967295 scval_format

pub values_lawful : IsFormat values_format
values_lawful = list_lawful 4294967295 scval_format scval_lawful

-- ---- calling: the contract, the name of its function, and the arguments

abbrev pub InvokeFields : Type 0
InvokeFields = ScAddress × (List ℕ × List ScVal)

abbrev pub invoke_of : InvokeFields → InvokeContractArgs
invoke_of f = record { contract = f.0; function = f.1.0; args = f.1.1 }

abbrev pub invoke_fields : InvokeContractArgs → InvokeFields
invoke_fields a = (a.contract, (a.function, a.args))

unfoldable pub invoke_format : Format InvokeContractArgs
invoke_format = via invoke_of invoke_fields (pair address_format (pair (opaque 32) values_format))

pub invoke_lawful : IsFormat invoke_format
unfolding invoke_format
invoke_lawful =
    via_lawful invoke_of invoke_fields _ (λ f. refl) (λ a. refl)
    (pair_lawful _ _ address_lawful (pair_lawful _ _ (opaque_lawful 32) values_lawful))

-- ---- making: what the id is made of, and what the contract runs

abbrev pub create_of : Preimage × Executable → CreateContractArgs
create_of f = record { preimage = f.0; executable = f.1 }

abbrev pub create_fields : CreateContractArgs → Preimage × Executable
create_fields a = (a.preimage, a.executable)

unfoldable pub create_format : Format CreateContractArgs
create_format = via create_of create_fields (pair preimage_format executable_format)

pub create_lawful : IsFormat create_format
unfolding create_format
create_lawful = via_lawful create_of create_fields _ (λ f. refl) (λ a. refl) (pair_lawful _ _ preimage_lawful executable_lawful)

-- ---- the same, and the arguments of the constructor

abbrev pub CreateV2Fields : Type 0
CreateV2Fields = Preimage × (Executable × List ScVal)

abbrev pub create_v2_of : CreateV2Fields → CreateContractArgsV2
create_v2_of f = record { preimage = f.0; executable = f.1.0; constructor_args = f.1.1 }

abbrev pub create_v2_fields : CreateContractArgsV2 → CreateV2Fields
create_v2_fields a = (a.preimage, (a.executable, a.constructor_args))

unfoldable pub create_v2_format : Format CreateContractArgsV2
create_v2_format = via create_v2_of create_v2_fields (pair preimage_format (pair executable_format values_format))

pub create_v2_lawful : IsFormat create_v2_format
unfolding create_v2_format
create_v2_lawful =
    via_lawful create_v2_of create_v2_fields _ (λ f. refl) (λ a. refl)
    (pair_lawful _ _ preimage_lawful (pair_lawful _ _ executable_lawful values_lawful))
