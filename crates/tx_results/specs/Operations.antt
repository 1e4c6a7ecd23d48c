-- What becomes of operations (XDR file Stellar-transaction, `OperationResult` and what it holds).
use Rattle.std.specs.Prelude.{◌≡◌, ◌<◌, ◌^◌, ◌-◌, ℕ, List, [], ◌∷◌, Option, Some, None}
use Rattle.std.proofs.Common.{refl, ap, arith}
use Rattle.xdr_spec.specs.Format.{Format, arm, nothing, union, enumeration, find_kind}
use Rattle.xdr_spec.specs.Laws.{IsFormat}
use Rattle.xdr_spec.proofs.Lemmas.{arm_kind, arm_lawful, enumeration_lawful, find_kind-back, nothing_lawful, union_lawful}
use Rattle.value_types.specs.Hash.{hash_format, hash_lawful}
use Rattle.value_types.specs.declared.hash.Hash.{Hash}
use Rattle.tx_results.specs.declared.codes.InvokeResultCode.{InvokeResultCode}
use Rattle.tx_results.specs.declared.codes.InvokeResultCode.TheVariants as invoke_codes
use Rattle.tx_results.specs.declared.codes.ExtendResult.{ExtendResult}
use Rattle.tx_results.specs.declared.codes.ExtendResult.TheVariants as extends
use Rattle.tx_results.specs.declared.codes.InnerKind.{InnerKind}
use Rattle.tx_results.specs.declared.codes.InnerKind.TheVariants as inner_kinds
use Rattle.tx_results.specs.declared.codes.OperationResultCode.{OperationResultCode}
use Rattle.tx_results.specs.declared.codes.OperationResultCode.TheVariants as operation_codes
use Rattle.tx_results.specs.declared.operation.InvokeResult.{InvokeResult}
use Rattle.tx_results.specs.declared.operation.InvokeResult.TheVariants as invokes
use Rattle.tx_results.specs.declared.operation.InnerResult.{InnerResult}
use Rattle.tx_results.specs.declared.operation.InnerResult.TheVariants as inners
use Rattle.tx_results.specs.declared.operation.OperationResult.{OperationResult}
use Rattle.tx_results.specs.declared.operation.OperationResult.TheVariants as operations

-- the word of -n in two's complement
abbrev pub minus : ℕ → ℕ
minus n = 2 ^ 32 - n

-- ---- the codes of INVOKE_HOST_FUNCTION

abbrev pub invoke_number : InvokeResultCode → ℕ
invoke_number invoke_codes.Success = 0
invoke_number invoke_codes.Malformed = minus 1
invoke_number invoke_codes.Trapped = minus 2
invoke_number invoke_codes.ResourceLimitExceeded = minus 3
invoke_number invoke_codes.EntryArchived = minus 4

abbrev pub invoke_codes_all : List InvokeResultCode
invoke_codes_all = invoke_codes.Success ∷ invoke_codes.Malformed ∷ invoke_codes.Trapped ∷ invoke_codes.ResourceLimitExceeded
    ∷ invoke_codes.EntryArchived ∷ []

abbrev pub invoke_of_number : ℕ → Option InvokeResultCode
invoke_of_number = find_kind invoke_number invoke_codes_all

unfoldable pub invoke_code_format : Format InvokeResultCode
invoke_code_format = enumeration invoke_number invoke_of_number

invoke_small : (k : InvokeResultCode) → invoke_number k < 2 ^ 32
invoke_small invoke_codes.Success = omega arith
invoke_small invoke_codes.Malformed = omega arith
invoke_small invoke_codes.Trapped = omega arith
invoke_small invoke_codes.ResourceLimitExceeded = omega arith
invoke_small invoke_codes.EntryArchived = omega arith

invoke_there : (k : InvokeResultCode) → invoke_of_number (invoke_number k) ≡ Some k
invoke_there invoke_codes.Success = refl
invoke_there invoke_codes.Malformed = refl
invoke_there invoke_codes.Trapped = refl
invoke_there invoke_codes.ResourceLimitExceeded = refl
invoke_there invoke_codes.EntryArchived = refl

pub invoke_code_lawful : IsFormat invoke_code_format
unfolding invoke_code_format
invoke_code_lawful =
    enumeration_lawful invoke_number invoke_of_number invoke_codes.Success invoke_small invoke_there
    (find_kind-back invoke_number invoke_codes_all)

-- ---- the result of INVOKE_HOST_FUNCTION: its code, and at SUCCESS the SHA-256 of the success preimage

abbrev pub invoke_code_of : InvokeResult → InvokeResultCode
invoke_code_of (invokes.Success preimage) = invoke_codes.Success
invoke_code_of invokes.Malformed = invoke_codes.Malformed
invoke_code_of invokes.Trapped = invoke_codes.Trapped
invoke_code_of invokes.ResourceLimitExceeded = invoke_codes.ResourceLimitExceeded
invoke_code_of invokes.EntryArchived = invoke_codes.EntryArchived

abbrev pub invoke_success_of : Hash → InvokeResult
invoke_success_of preimage = invokes.Success preimage

abbrev pub as_invoke_success : InvokeResult → Option Hash
as_invoke_success (invokes.Success preimage) = Some preimage
as_invoke_success _ = None

abbrev pub invoke_arms : InvokeResultCode → Format InvokeResult
invoke_arms invoke_codes.Success = arm invoke_success_of as_invoke_success hash_format
invoke_arms invoke_codes.Malformed = nothing invokes.Malformed
invoke_arms invoke_codes.Trapped = nothing invokes.Trapped
invoke_arms invoke_codes.ResourceLimitExceeded = nothing invokes.ResourceLimitExceeded
invoke_arms invoke_codes.EntryArchived = nothing invokes.EntryArchived

unfoldable pub invoke_format : Format InvokeResult
invoke_format = union invoke_number invoke_of_number invoke_code_of invoke_arms

back_invoke_success : (v : InvokeResult) (x : Hash) → as_invoke_success v ≡ Some x → invoke_success_of x ≡ v
back_invoke_success (invokes.Success preimage) x e = cc
back_invoke_success _ x e = absurd cc

invoke_arms_lawful : (k : InvokeResultCode) → IsFormat (invoke_arms k)
invoke_arms_lawful invoke_codes.Success =
    arm_lawful invoke_success_of as_invoke_success _ (λ x. refl) back_invoke_success hash_lawful
invoke_arms_lawful invoke_codes.Malformed = nothing_lawful invokes.Malformed
invoke_arms_lawful invoke_codes.Trapped = nothing_lawful invokes.Trapped
invoke_arms_lawful invoke_codes.ResourceLimitExceeded = nothing_lawful invokes.ResourceLimitExceeded
invoke_arms_lawful invoke_codes.EntryArchived = nothing_lawful invokes.EntryArchived

invoke_coherent : (k : InvokeResultCode) (v : InvokeResult) → (invoke_arms k).fits v → invoke_code_of v ≡ k
invoke_coherent invoke_codes.Success v h =
    arm_kind invoke_code_of invoke_codes.Success invoke_success_of as_invoke_success hash_format
    (λ x. refl) back_invoke_success v h
invoke_coherent invoke_codes.Malformed v h = ap invoke_code_of h
invoke_coherent invoke_codes.Trapped v h = ap invoke_code_of h
invoke_coherent invoke_codes.ResourceLimitExceeded v h = ap invoke_code_of h
invoke_coherent invoke_codes.EntryArchived v h = ap invoke_code_of h

pub invoke_lawful : IsFormat invoke_format
unfolding invoke_format
invoke_lawful = union_lawful invoke_number invoke_of_number invoke_code_of invoke_arms (record {
  some = invoke_codes.Malformed;
  small = invoke_small;
  there = invoke_there;
  back = find_kind-back invoke_number invoke_codes_all;
  bodies = invoke_arms_lawful;
  coherent = invoke_coherent;
})

-- ---- the result of EXTEND_FOOTPRINT_TTL: its code alone

abbrev pub extend_number : ExtendResult → ℕ
extend_number extends.Success = 0
extend_number extends.Malformed = minus 1

abbrev pub extends_all : List ExtendResult
extends_all = extends.Success ∷ extends.Malformed ∷ []

abbrev pub extend_of_number : ℕ → Option ExtendResult
extend_of_number = find_kind extend_number extends_all

unfoldable pub extend_format : Format ExtendResult
extend_format = enumeration extend_number extend_of_number

extend_small : (k : ExtendResult) → extend_number k < 2 ^ 32
extend_small extends.Success = omega arith
extend_small extends.Malformed = omega arith

extend_there : (k : ExtendResult) → extend_of_number (extend_number k) ≡ Some k
extend_there extends.Success = refl
extend_there extends.Malformed = refl

pub extend_lawful : IsFormat extend_format
unfolding extend_format
extend_lawful =
    enumeration_lawful extend_number extend_of_number extends.Success extend_small extend_there
    (find_kind-back extend_number extends_all)

-- ---- the number of a body, and the result that the body has of its own

abbrev pub inner_number : InnerKind → ℕ
inner_number inner_kinds.Invoke = 24
inner_number inner_kinds.Extend = 25

abbrev pub inner_kinds_all : List InnerKind
inner_kinds_all = inner_kinds.Invoke ∷ inner_kinds.Extend ∷ []

abbrev pub inner_of_number : ℕ → Option InnerKind
inner_of_number = find_kind inner_number inner_kinds_all

unfoldable pub inner_kind_format : Format InnerKind
inner_kind_format = enumeration inner_number inner_of_number

inner_small : (k : InnerKind) → inner_number k < 2 ^ 32
inner_small inner_kinds.Invoke = omega arith
inner_small inner_kinds.Extend = omega arith

inner_there : (k : InnerKind) → inner_of_number (inner_number k) ≡ Some k
inner_there inner_kinds.Invoke = refl
inner_there inner_kinds.Extend = refl

pub inner_kind_lawful : IsFormat inner_kind_format
unfolding inner_kind_format
inner_kind_lawful =
    enumeration_lawful inner_number inner_of_number inner_kinds.Invoke inner_small inner_there
    (find_kind-back inner_number inner_kinds_all)

abbrev pub inner_kind_of : InnerResult → InnerKind
inner_kind_of (inners.Invoke result) = inner_kinds.Invoke
inner_kind_of (inners.Extend result) = inner_kinds.Extend

abbrev pub invoke_of : InvokeResult → InnerResult
invoke_of result = inners.Invoke result

abbrev pub as_invoke : InnerResult → Option InvokeResult
as_invoke (inners.Invoke result) = Some result
as_invoke _ = None

abbrev pub extend_of : ExtendResult → InnerResult
extend_of result = inners.Extend result

abbrev pub as_extend : InnerResult → Option ExtendResult
as_extend (inners.Extend result) = Some result
as_extend _ = None

abbrev pub inner_arms : InnerKind → Format InnerResult
inner_arms inner_kinds.Invoke = arm invoke_of as_invoke invoke_format
inner_arms inner_kinds.Extend = arm extend_of as_extend extend_format

unfoldable pub inner_format : Format InnerResult
inner_format = union inner_number inner_of_number inner_kind_of inner_arms

back_invoke : (v : InnerResult) (x : InvokeResult) → as_invoke v ≡ Some x → invoke_of x ≡ v
back_invoke (inners.Invoke result) x e = cc
back_invoke _ x e = absurd cc

back_extend : (v : InnerResult) (x : ExtendResult) → as_extend v ≡ Some x → extend_of x ≡ v
back_extend (inners.Extend result) x e = cc
back_extend _ x e = absurd cc

inner_arms_lawful : (k : InnerKind) → IsFormat (inner_arms k)
inner_arms_lawful inner_kinds.Invoke = arm_lawful invoke_of as_invoke _ (λ x. refl) back_invoke invoke_lawful
inner_arms_lawful inner_kinds.Extend = arm_lawful extend_of as_extend _ (λ x. refl) back_extend extend_lawful

inner_coherent : (k : InnerKind) (v : InnerResult) → (inner_arms k).fits v → inner_kind_of v ≡ k
inner_coherent inner_kinds.Invoke v h =
    arm_kind inner_kind_of inner_kinds.Invoke invoke_of as_invoke invoke_format (λ x. refl) back_invoke v h
inner_coherent inner_kinds.Extend v h =
    arm_kind inner_kind_of inner_kinds.Extend extend_of as_extend extend_format (λ x. refl) back_extend v h

pub inner_lawful : IsFormat inner_format
unfolding inner_format
inner_lawful = union_lawful inner_number inner_of_number inner_kind_of inner_arms (record {
  some = inner_kinds.Extend;
  small = inner_small;
  there = inner_there;
  back = find_kind-back inner_number inner_kinds_all;
  bodies = inner_arms_lawful;
  coherent = inner_coherent;
})

-- ---- the result of an operation: opINNER 0 and then the body's, or opNOT_SUPPORTED -3 alone

abbrev pub operation_number : OperationResultCode → ℕ
operation_number operation_codes.Inner = 0
operation_number operation_codes.NotSupported = minus 3

abbrev pub operation_codes_all : List OperationResultCode
operation_codes_all = operation_codes.Inner ∷ operation_codes.NotSupported ∷ []

abbrev pub operation_of_number : ℕ → Option OperationResultCode
operation_of_number = find_kind operation_number operation_codes_all

unfoldable pub operation_code_format : Format OperationResultCode
operation_code_format = enumeration operation_number operation_of_number

operation_small : (k : OperationResultCode) → operation_number k < 2 ^ 32
operation_small operation_codes.Inner = omega arith
operation_small operation_codes.NotSupported = omega arith

operation_there : (k : OperationResultCode) → operation_of_number (operation_number k) ≡ Some k
operation_there operation_codes.Inner = refl
operation_there operation_codes.NotSupported = refl

pub operation_code_lawful : IsFormat operation_code_format
unfolding operation_code_format
operation_code_lawful =
    enumeration_lawful operation_number operation_of_number operation_codes.Inner operation_small operation_there
    (find_kind-back operation_number operation_codes_all)

abbrev pub operation_code_of : OperationResult → OperationResultCode
operation_code_of (operations.Inner result) = operation_codes.Inner
operation_code_of operations.NotSupported = operation_codes.NotSupported

abbrev pub inner_of : InnerResult → OperationResult
inner_of result = operations.Inner result

abbrev pub as_inner : OperationResult → Option InnerResult
as_inner (operations.Inner result) = Some result
as_inner _ = None

abbrev pub operation_arms : OperationResultCode → Format OperationResult
operation_arms operation_codes.Inner = arm inner_of as_inner inner_format
operation_arms operation_codes.NotSupported = nothing operations.NotSupported

unfoldable pub operation_format : Format OperationResult
operation_format = union operation_number operation_of_number operation_code_of operation_arms

back_inner : (v : OperationResult) (x : InnerResult) → as_inner v ≡ Some x → inner_of x ≡ v
back_inner (operations.Inner result) x e = cc
back_inner _ x e = absurd cc

operation_arms_lawful : (k : OperationResultCode) → IsFormat (operation_arms k)
operation_arms_lawful operation_codes.Inner = arm_lawful inner_of as_inner _ (λ x. refl) back_inner inner_lawful
operation_arms_lawful operation_codes.NotSupported = nothing_lawful operations.NotSupported

operation_coherent : (k : OperationResultCode) (v : OperationResult) → (operation_arms k).fits v → operation_code_of v ≡ k
operation_coherent operation_codes.Inner v h =
    arm_kind operation_code_of operation_codes.Inner inner_of as_inner inner_format (λ x. refl) back_inner v h
operation_coherent operation_codes.NotSupported v h = ap operation_code_of h

pub operation_lawful : IsFormat operation_format
unfolding operation_format
operation_lawful = union_lawful operation_number operation_of_number operation_code_of operation_arms (record {
  some = operation_codes.NotSupported;
  small = operation_small;
  there = operation_there;
  back = find_kind-back operation_number operation_codes_all;
  bodies = operation_arms_lawful;
  coherent = operation_coherent;
})
