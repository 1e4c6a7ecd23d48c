-- What a transaction has the host do: the number of a type, and then its fields (XDR file Stellar-transaction,
-- `HostFunctionType` and `HostFunction`).
use Rattle.std.specs.Prelude.{◌≡◌, ◌<◌, ◌^◌, List, [], ◌∷◌, ℕ, Option, Some, None}
use Rattle.std.proofs.Common.{refl, arith}
use Rattle.xdr_spec.specs.Format.{Format, arm, union, enumeration, find_kind, opaque}
use Rattle.xdr_spec.specs.Laws.{IsFormat}
use Rattle.xdr_spec.proofs.Lemmas.{arm_kind, arm_lawful, enumeration_lawful, find_kind-back, opaque_lawful, union_lawful}
use Rattle.invoke_types.specs.Arguments.{invoke_format, invoke_lawful, create_format, create_lawful, create_v2_format}
use Rattle.invoke_types.specs.Arguments.{create_v2_lawful}
use Rattle.invoke_types.specs.declared.arguments.InvokeContractArgs.{InvokeContractArgs}
use Rattle.invoke_types.specs.declared.arguments.CreateContractArgs.{CreateContractArgs}
use Rattle.invoke_types.specs.declared.arguments.CreateContractArgsV2.{CreateContractArgsV2}
use Rattle.invoke_types.specs.declared.host_function.HostFunctionType.{HostFunctionType}
use Rattle.invoke_types.specs.declared.host_function.HostFunctionType.TheVariants as types
use Rattle.invoke_types.specs.declared.host_function.HostFunction.{HostFunction}
use Rattle.invoke_types.specs.declared.host_function.HostFunction.TheVariants as functions

-- ---- the types

abbrev pub number : HostFunctionType → ℕ
number types.InvokeContract = 0
number types.CreateContract = 1
number types.UploadContractWasm = 2
number types.CreateContractV2 = 3

abbrev pub all : List HostFunctionType
all = types.InvokeContract ∷ types.CreateContract ∷ types.UploadContractWasm ∷ types.CreateContractV2 ∷ []

abbrev pub kind_of : ℕ → Option HostFunctionType
kind_of = find_kind number all

unfoldable pub type_format : Format HostFunctionType
type_format = enumeration number kind_of

small : (k : HostFunctionType) → number k < 2 ^ 32
small types.InvokeContract = omega arith
small types.CreateContract = omega arith
small types.UploadContractWasm = omega arith
small types.CreateContractV2 = omega arith

pub there : (k : HostFunctionType) → kind_of (number k) ≡ Some k
there types.InvokeContract = refl
there types.CreateContract = refl
there types.UploadContractWasm = refl
there types.CreateContractV2 = refl

pub type_lawful : IsFormat type_format
unfolding type_format
type_lawful = enumeration_lawful number kind_of types.InvokeContract small there (find_kind-back number all)

-- ---- the functions

abbrev pub kind : HostFunction → HostFunctionType
kind (functions.InvokeContract args) = types.InvokeContract
kind (functions.CreateContract args) = types.CreateContract
kind (functions.UploadContractWasm code) = types.UploadContractWasm
kind (functions.CreateContractV2 args) = types.CreateContractV2

abbrev pub invoke_contract_of : InvokeContractArgs → HostFunction
invoke_contract_of args = functions.InvokeContract args

abbrev pub as_invoke_contract : HostFunction → Option InvokeContractArgs
as_invoke_contract (functions.InvokeContract args) = Some args
as_invoke_contract _ = None

abbrev pub create_contract_of : CreateContractArgs → HostFunction
create_contract_of args = functions.CreateContract args

abbrev pub as_create_contract : HostFunction → Option CreateContractArgs
as_create_contract (functions.CreateContract args) = Some args
as_create_contract _ = None

abbrev pub upload_of : List ℕ → HostFunction
upload_of code = functions.UploadContractWasm code

abbrev pub as_upload : HostFunction → Option (List ℕ)
as_upload (functions.UploadContractWasm code) = Some code
as_upload _ = None

abbrev pub create_contract_v2_of : CreateContractArgsV2 → HostFunction
create_contract_v2_of args = functions.CreateContractV2 args

abbrev pub as_create_contract_v2 : HostFunction → Option CreateContractArgsV2
as_create_contract_v2 (functions.CreateContractV2 args) = Some args
as_create_contract_v2 _ = None

abbrev pub arms : HostFunctionType → Format HostFunction
arms types.InvokeContract = arm invoke_contract_of as_invoke_contract invoke_format
arms types.CreateContract = arm create_contract_of as_create_contract create_format
arms types.UploadContractWasm = arm upload_of as_upload (opaque 4294967295)
arms types.CreateContractV2 = arm create_contract_v2_of as_create_contract_v2 create_v2_format

unfoldable pub host_function_format : Format HostFunction
host_function_format = union number kind_of kind arms

back_invoke_contract : (v : HostFunction) (x : InvokeContractArgs) → as_invoke_contract v ≡ Some x → invoke_contract_of x ≡ v
back_invoke_contract (functions.InvokeContract args) x e = cc
back_invoke_contract _ x e = absurd cc

back_create_contract : (v : HostFunction) (x : CreateContractArgs) → as_create_contract v ≡ Some x → create_contract_of x ≡ v
back_create_contract (functions.CreateContract args) x e = cc
back_create_contract _ x e = absurd cc

back_upload : (v : HostFunction) (x : List ℕ) → as_upload v ≡ Some x → upload_of x ≡ v
back_upload (functions.UploadContractWasm code) x e = cc
back_upload _ x e = absurd cc

back_create_contract_v2 : (v : HostFunction) (x : CreateContractArgsV2) → as_create_contract_v2 v ≡ Some x
    → create_contract_v2_of x ≡ v
back_create_contract_v2 (functions.CreateContractV2 args) x e = cc
back_create_contract_v2 _ x e = absurd cc

arms_lawful : (k : HostFunctionType) → IsFormat (arms k)
arms_lawful types.InvokeContract =
    arm_lawful invoke_contract_of as_invoke_contract _ (λ x. refl) back_invoke_contract invoke_lawful
arms_lawful types.CreateContract =
    arm_lawful create_contract_of as_create_contract _ (λ x. refl) back_create_contract create_lawful
arms_lawful types.UploadContractWasm = arm_lawful upload_of as_upload _ (λ x. refl) back_upload (opaque_lawful 4294967295)
arms_lawful types.CreateContractV2 =
    arm_lawful create_contract_v2_of as_create_contract_v2 _ (λ x. refl) back_create_contract_v2 create_v2_lawful

coherent : (k : HostFunctionType) (v : HostFunction) → (arms k).fits v → kind v ≡ k
coherent types.InvokeContract v h =
    arm_kind kind types.InvokeContract invoke_contract_of as_invoke_contract invoke_format (λ x. refl) back_invoke_contract v h
coherent types.CreateContract v h =
    arm_kind kind types.CreateContract create_contract_of as_create_contract create_format (λ x. refl) back_create_contract v h
coherent types.UploadContractWasm v h =
    arm_kind kind types.UploadContractWasm upload_of as_upload (opaque 4294967295) (λ x. refl) back_upload v h
coherent types.CreateContractV2 v h =
    arm_kind kind types.CreateContractV2 create_contract_v2_of as_create_contract_v2 create_v2_format
    (λ x. refl) back_create_contract_v2 v h

pub host_function_lawful : IsFormat host_function_format
unfolding host_function_format
host_function_lawful = union_lawful number kind_of kind arms (record {
  some = types.InvokeContract;
  small = small;
  there = there;
  back = find_kind-back number all;
  bodies = arms_lawful;
  coherent = coherent;
})
