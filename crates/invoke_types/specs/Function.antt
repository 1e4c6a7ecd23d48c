-- What an authorisation lets happen: the number of a type, and then its fields (XDR file Stellar-transaction,
-- `SorobanAuthorizedFunctionType` and `SorobanAuthorizedFunction`).
use Rattle.std.specs.Prelude.{◌≡◌, ◌<◌, ◌^◌, List, [], ◌∷◌, ℕ, Option, Some, None}
use Rattle.std.proofs.Common.{refl, arith}
use Rattle.xdr_spec.specs.Format.{Format, arm, union, enumeration, find_kind}
use Rattle.xdr_spec.specs.Laws.{IsFormat}
use Rattle.xdr_spec.proofs.Lemmas.{arm_kind, arm_lawful, enumeration_lawful, find_kind-back, union_lawful}
use Rattle.invoke_types.specs.Arguments.{invoke_format, invoke_lawful, create_format, create_lawful, create_v2_format}
use Rattle.invoke_types.specs.Arguments.{create_v2_lawful}
use Rattle.invoke_types.specs.declared.arguments.InvokeContractArgs.{InvokeContractArgs}
use Rattle.invoke_types.specs.declared.arguments.CreateContractArgs.{CreateContractArgs}
use Rattle.invoke_types.specs.declared.arguments.CreateContractArgsV2.{CreateContractArgsV2}
use Rattle.invoke_types.specs.declared.function.FunctionType.{FunctionType}
use Rattle.invoke_types.specs.declared.function.FunctionType.TheVariants as types
use Rattle.invoke_types.specs.declared.function.Function.{Function}
use Rattle.invoke_types.specs.declared.function.Function.TheVariants as functions

-- ---- the types

abbrev pub number : FunctionType → ℕ
number types.ContractFn = 0
number types.CreateContract = 1
number types.CreateContractV2 = 2

abbrev pub all : List FunctionType
all = types.ContractFn ∷ types.CreateContract ∷ types.CreateContractV2 ∷ []

abbrev pub kind_of : ℕ → Option FunctionType
kind_of = find_kind number all

unfoldable pub type_format : Format FunctionType
type_format = enumeration number kind_of

small : (k : FunctionType) → number k < 2 ^ 32
small types.ContractFn = omega arith
small types.CreateContract = omega arith
small types.CreateContractV2 = omega arith

pub there : (k : FunctionType) → kind_of (number k) ≡ Some k
there types.ContractFn = refl
there types.CreateContract = refl
there types.CreateContractV2 = refl

pub type_lawful : IsFormat type_format
unfolding type_format
type_lawful = enumeration_lawful number kind_of types.ContractFn small there (find_kind-back number all)

-- ---- the functions

abbrev pub kind : Function → FunctionType
kind (functions.ContractFn args) = types.ContractFn
kind (functions.CreateContract args) = types.CreateContract
kind (functions.CreateContractV2 args) = types.CreateContractV2

abbrev pub contract_fn_of : InvokeContractArgs → Function
contract_fn_of args = functions.ContractFn args

abbrev pub as_contract_fn : Function → Option InvokeContractArgs
as_contract_fn (functions.ContractFn args) = Some args
as_contract_fn _ = None

abbrev pub create_contract_of : CreateContractArgs → Function
create_contract_of args = functions.CreateContract args

abbrev pub as_create_contract : Function → Option CreateContractArgs
as_create_contract (functions.CreateContract args) = Some args
as_create_contract _ = None

abbrev pub create_contract_v2_of : CreateContractArgsV2 → Function
create_contract_v2_of args = functions.CreateContractV2 args

abbrev pub as_create_contract_v2 : Function → Option CreateContractArgsV2
as_create_contract_v2 (functions.CreateContractV2 args) = Some args
as_create_contract_v2 _ = None

abbrev pub arms : FunctionType → Format Function
arms types.ContractFn = arm contract_fn_of as_contract_fn invoke_format
arms types.CreateContract = arm create_contract_of as_create_contract create_format
arms types.CreateContractV2 = arm create_contract_v2_of as_create_contract_v2 create_v2_format

unfoldable pub function_format : Format Function
function_format = union number kind_of kind arms

back_contract_fn : (v : Function) (x : InvokeContractArgs) → as_contract_fn v ≡ Some x → contract_fn_of x ≡ v
back_contract_fn (functions.ContractFn args) x e = cc
back_contract_fn _ x e = absurd cc

back_create_contract : (v : Function) (x : CreateContractArgs) → as_create_contract v ≡ Some x → create_contract_of x ≡ v
back_create_contract (functions.CreateContract args) x e = cc
back_create_contract _ x e = absurd cc

back_create_contract_v2 : (v : Function) (x : CreateContractArgsV2) → as_create_contract_v2 v ≡ Some x
    → create_contract_v2_of x ≡ v
back_create_contract_v2 (functions.CreateContractV2 args) x e = cc
back_create_contract_v2 _ x e = absurd cc

arms_lawful : (k : FunctionType) → IsFormat (arms k)
arms_lawful types.ContractFn = arm_lawful contract_fn_of as_contract_fn _ (λ x. refl) back_contract_fn invoke_lawful
arms_lawful types.CreateContract =
    arm_lawful create_contract_of as_create_contract _ (λ x. refl) back_create_contract create_lawful
arms_lawful types.CreateContractV2 =
    arm_lawful create_contract_v2_of as_create_contract_v2 _ (λ x. refl) back_create_contract_v2 create_v2_lawful

coherent : (k : FunctionType) (v : Function) → (arms k).fits v → kind v ≡ k
coherent types.ContractFn v h =
    arm_kind kind types.ContractFn contract_fn_of as_contract_fn invoke_format (λ x. refl) back_contract_fn v h
coherent types.CreateContract v h =
    arm_kind kind types.CreateContract create_contract_of as_create_contract create_format (λ x. refl) back_create_contract v h
coherent types.CreateContractV2 v h =
    arm_kind kind types.CreateContractV2 create_contract_v2_of as_create_contract_v2 create_v2_format
    (λ x. refl) back_create_contract_v2 v h

pub function_lawful : IsFormat function_format
unfolding function_format
function_lawful = union_lawful number kind_of kind arms (record {
  some = types.ContractFn;
  small = small;
  there = there;
  back = find_kind-back number all;
  bodies = arms_lawful;
  coherent = coherent;
})
