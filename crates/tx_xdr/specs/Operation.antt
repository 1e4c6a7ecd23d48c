-- Operations (XDR file Stellar-transaction, `OperationType` and `Operation`): an optional source, and then the number of a type
-- and a body of that type.
use Rattle.std.specs.Prelude.{◌≡◌, ◌<◌, ◌^◌, List, [], ◌∷◌, ℕ, Option, Some, None}
use Rattle.std.proofs.Common.{refl, ap, arith}
use Rattle.xdr_spec.specs.Format.{Format, via, pair, list, arm, nothing, optional, enumeration, find_kind, number32, union}
use Rattle.xdr_spec.specs.Laws.{IsFormat}
use Rattle.xdr_spec.proofs.Lemmas.{arm_kind, arm_lawful, enumeration_lawful, find_kind-back, list_lawful, nothing_lawful}
use Rattle.xdr_spec.proofs.Lemmas.{number32_lawful, optional_lawful, pair_lawful, union_lawful, via_lawful}
use Rattle.value_types.specs.Headed.{headed, headed_lawful}
use Rattle.invoke_types.specs.HostFunction.{host_function_format, host_function_lawful}
use Rattle.invoke_types.specs.declared.host_function.HostFunction.{HostFunction}
use Rattle.auth_types.specs.AuthEntry.{auth_entry_format, auth_entry_lawful}
use Rattle.auth_types.specs.declared.auth_entry.AuthEntry.{AuthEntry}
use Rattle.tx_parts.specs.MuxedAccount.{account_format, account_lawful}
use Rattle.tx_parts.specs.declared.account.MuxedAccount.{MuxedAccount}
use Rattle.tx_xdr.specs.declared.transaction.OperationType.{OperationType}
use Rattle.tx_xdr.specs.declared.transaction.OperationType.TheVariants as types
use Rattle.tx_xdr.specs.declared.transaction.OperationBody.{OperationBody}
use Rattle.tx_xdr.specs.declared.transaction.OperationBody.TheVariants as bodies
use Rattle.tx_xdr.specs.declared.transaction.Operation.{Operation}

-- ---- the types

abbrev pub number : OperationType → ℕ
number types.InvokeHostFunction = 24
number types.ExtendFootprintTtl = 25
number types.RestoreFootprint = 26

abbrev pub all : List OperationType
all = types.InvokeHostFunction ∷ types.ExtendFootprintTtl ∷ types.RestoreFootprint ∷ []

abbrev pub type_of : ℕ → Option OperationType
type_of = find_kind number all

unfoldable pub type_format : Format OperationType
type_format = enumeration number type_of

small : (k : OperationType) → number k < 2 ^ 32
small types.InvokeHostFunction = omega arith
small types.ExtendFootprintTtl = omega arith
small types.RestoreFootprint = omega arith

there : (k : OperationType) → type_of (number k) ≡ Some k
there types.InvokeHostFunction = refl
there types.ExtendFootprintTtl = refl
there types.RestoreFootprint = refl

pub type_lawful : IsFormat type_format
unfolding type_format
type_lawful = enumeration_lawful number type_of types.RestoreFootprint small there (find_kind-back number all)

-- ---- the bodies: of an invocation the function and who authorises what, of an extension ext 0 and a number of ledgers, of a
-- restoration ext 0

abbrev pub kind : OperationBody → OperationType
kind (bodies.InvokeHostFunction host_function auth) = types.InvokeHostFunction
kind (bodies.ExtendFootprintTtl extend_to) = types.ExtendFootprintTtl
kind bodies.RestoreFootprint = types.RestoreFootprint

abbrev pub invocation_of : HostFunction × List AuthEntry → OperationBody
invocation_of f = bodies.InvokeHostFunction f.0 f.1

abbrev pub as_invocation : OperationBody → Option (HostFunction × List AuthEntry)
as_invocation (bodies.InvokeHostFunction host_function auth) = Some (host_function, auth)
as_invocation _ = None

abbrev pub extension_of : ℕ → OperationBody
extension_of extend_to = bodies.ExtendFootprintTtl extend_to

abbrev pub as_extension : OperationBody → Option ℕ
as_extension (bodies.ExtendFootprintTtl extend_to) = Some extend_to
as_extension _ = None

abbrev pub arms : OperationType → Format OperationBody
arms types.InvokeHostFunction = arm invocation_of as_invocation (pair host_function_format (list 4294967295 auth_entry_format))
arms types.ExtendFootprintTtl = arm extension_of as_extension (headed 0 number32)
arms types.RestoreFootprint = headed 0 (nothing bodies.RestoreFootprint)

unfoldable pub body_format : Format OperationBody
body_format = union number type_of kind arms

back_invocation : (v : OperationBody) (x : HostFunction × List AuthEntry) → as_invocation v ≡ Some x → invocation_of x ≡ v
back_invocation (bodies.InvokeHostFunction host_function auth) x e = cc
back_invocation _ x e = absurd cc

back_extension : (v : OperationBody) (x : ℕ) → as_extension v ≡ Some x → extension_of x ≡ v
back_extension (bodies.ExtendFootprintTtl extend_to) x e = cc
back_extension _ x e = absurd cc

arms_lawful : (k : OperationType) → IsFormat (arms k)
arms_lawful types.InvokeHostFunction =
    arm_lawful invocation_of as_invocation _ (λ x. refl) back_invocation
    (pair_lawful _ _ host_function_lawful (list_lawful 4294967295 _ auth_entry_lawful))
arms_lawful types.ExtendFootprintTtl =
    arm_lawful extension_of as_extension _ (λ x. refl) back_extension (headed_lawful 0 _ (omega arith) number32_lawful)
arms_lawful types.RestoreFootprint = headed_lawful 0 _ (omega arith) (nothing_lawful bodies.RestoreFootprint)

coherent : (k : OperationType) (v : OperationBody) → (arms k).fits v → kind v ≡ k
coherent types.InvokeHostFunction v h =
    arm_kind kind types.InvokeHostFunction invocation_of as_invocation
    (pair host_function_format (list 4294967295 auth_entry_format)) (λ x. refl) back_invocation v h
coherent types.ExtendFootprintTtl v h =
    arm_kind kind types.ExtendFootprintTtl extension_of as_extension (headed 0 number32) (λ x. refl) back_extension v h
coherent types.RestoreFootprint v h = ap kind h

pub body_lawful : IsFormat body_format
unfolding body_format
body_lawful = union_lawful number type_of kind arms (record {
  some = types.RestoreFootprint;
  small = small;
  there = there;
  back = find_kind-back number all;
  bodies = arms_lawful;
  coherent = coherent;
})

-- ---- the operation

abbrev pub operation_of : Option MuxedAccount × OperationBody → Operation
operation_of f = record { source = f.0; body = f.1 }

abbrev pub operation_fields : Operation → Option MuxedAccount × OperationBody
operation_fields operation = (operation.source, operation.body)

unfoldable pub operation_format : Format Operation
operation_format = via operation_of operation_fields (pair (optional account_format) body_format)

pub operation_lawful : IsFormat operation_format
unfolding operation_format
operation_lawful = via_lawful operation_of operation_fields _ (λ f. refl) (λ operation. refl)
    (pair_lawful _ _ (optional_lawful _ account_lawful) body_lawful)
