-- What becomes of transactions and fee bumps (XDR files Stellar-transaction and Stellar-ledger, `TransactionResultSet` and what
-- it holds).
use Rattle.std.specs.Prelude.{◌≡◌, ◌<◌, ◌^◌, ℕ, ℤ, List, [], ◌∷◌, Option, Some, None, map}
use Rattle.std.proofs.Common.{refl, ap, arith}
use Rattle.xdr_spec.specs.Format.{Format, via, pair, list, arm, nothing, union, enumeration, find_kind, signed64}
use Rattle.xdr_spec.specs.Laws.{IsFormat}
use Rattle.xdr_spec.proofs.Lemmas.{arm_kind, arm_lawful, enumeration_lawful, find_kind-back, list_lawful, nothing_lawful}
use Rattle.xdr_spec.proofs.Lemmas.{pair_lawful, signed64_lawful, union_lawful, via_lawful}
use Rattle.value_types.specs.Headed.{headed, headed_lawful}
use Rattle.value_types.specs.Hash.{hash_format, hash_lawful}
use Rattle.value_types.specs.declared.hash.Hash.{Hash}
use Rattle.tx_results.specs.declared.codes.TransactionResultCode.{TransactionResultCode}
use Rattle.tx_results.specs.declared.codes.TransactionResultCode.TheVariants as codes
use Rattle.tx_results.specs.declared.codes.EnvelopeResultCode.{EnvelopeResultCode}
use Rattle.tx_results.specs.declared.codes.EnvelopeResultCode.TheVariants as envelope_codes
use Rattle.tx_results.specs.declared.operation.OperationResult.{OperationResult}
use Rattle.tx_results.specs.declared.results.TransactionOutcome.{TransactionOutcome}
use Rattle.tx_results.specs.declared.results.TransactionOutcome.TheVariants as outcomes
use Rattle.tx_results.specs.declared.results.InnerTransactionResult.{InnerTransactionResult}
use Rattle.tx_results.specs.declared.results.InnerTransactionResultPair.{InnerTransactionResultPair}
use Rattle.tx_results.specs.declared.results.EnvelopeOutcome.{EnvelopeOutcome}
use Rattle.tx_results.specs.declared.results.EnvelopeOutcome.TheVariants as envelopes
use Rattle.tx_results.specs.declared.results.TransactionResult.{TransactionResult}
use Rattle.tx_results.specs.declared.results.TransactionResultPair.{TransactionResultPair}
use Rattle.tx_results.specs.declared.results.ResultSet.{ResultSet}
use Rattle.tx_results.specs.Operations.{minus, operation_format, operation_lawful}

-- ---- the codes of transactions alone

abbrev pub code_number : TransactionResultCode → ℕ
code_number codes.Success = 0
code_number codes.Failed = minus 1
code_number codes.TooEarly = minus 2
code_number codes.TooLate = minus 3
code_number codes.MissingOperation = minus 4
code_number codes.Malformed = minus 16
code_number codes.SorobanInvalid = minus 17

abbrev pub codes_all : List TransactionResultCode
codes_all =
    codes.Success ∷ codes.Failed ∷ codes.TooEarly ∷ codes.TooLate ∷ codes.MissingOperation ∷ codes.Malformed
    ∷ codes.SorobanInvalid ∷ []

abbrev pub code_of_number : ℕ → Option TransactionResultCode
code_of_number = find_kind code_number codes_all

unfoldable pub code_format : Format TransactionResultCode
code_format = enumeration code_number code_of_number

code_small : (k : TransactionResultCode) → code_number k < 2 ^ 32
code_small codes.Success = omega arith
code_small codes.Failed = omega arith
code_small codes.TooEarly = omega arith
code_small codes.TooLate = omega arith
code_small codes.MissingOperation = omega arith
code_small codes.Malformed = omega arith
code_small codes.SorobanInvalid = omega arith

code_there : (k : TransactionResultCode) → code_of_number (code_number k) ≡ Some k
code_there codes.Success = refl
code_there codes.Failed = refl
code_there codes.TooEarly = refl
code_there codes.TooLate = refl
code_there codes.MissingOperation = refl
code_there codes.Malformed = refl
code_there codes.SorobanInvalid = refl

pub code_lawful : IsFormat code_format
unfolding code_format
code_lawful =
    enumeration_lawful code_number code_of_number codes.Success code_small code_there (find_kind-back code_number codes_all)

-- ---- what became of a transaction: its code, and the results of its operations where they ran

abbrev pub code_of : TransactionOutcome → TransactionResultCode
code_of (outcomes.Success results) = codes.Success
code_of (outcomes.Failed results) = codes.Failed
code_of outcomes.TooEarly = codes.TooEarly
code_of outcomes.TooLate = codes.TooLate
code_of outcomes.MissingOperation = codes.MissingOperation
code_of outcomes.Malformed = codes.Malformed
code_of outcomes.SorobanInvalid = codes.SorobanInvalid

abbrev pub success_of : List OperationResult → TransactionOutcome
success_of results = outcomes.Success results

abbrev pub as_success : TransactionOutcome → Option (List OperationResult)
as_success (outcomes.Success results) = Some results
as_success _ = None

abbrev pub failed_of : List OperationResult → TransactionOutcome
failed_of results = outcomes.Failed results

abbrev pub as_failed : TransactionOutcome → Option (List OperationResult)
as_failed (outcomes.Failed results) = Some results
as_failed _ = None

abbrev pub outcome_arms : TransactionResultCode → Format TransactionOutcome
outcome_arms codes.Success = arm success_of as_success (list 4294967295 operation_format)
outcome_arms codes.Failed = arm failed_of as_failed (list 4294967295 operation_format)
outcome_arms codes.TooEarly = nothing outcomes.TooEarly
outcome_arms codes.TooLate = nothing outcomes.TooLate
outcome_arms codes.MissingOperation = nothing outcomes.MissingOperation
outcome_arms codes.Malformed = nothing outcomes.Malformed
outcome_arms codes.SorobanInvalid = nothing outcomes.SorobanInvalid

unfoldable pub outcome_format : Format TransactionOutcome
outcome_format = union code_number code_of_number code_of outcome_arms

back_success : (v : TransactionOutcome) (x : List OperationResult) → as_success v ≡ Some x → success_of x ≡ v
back_success (outcomes.Success results) x e = cc
back_success _ x e = absurd cc

back_failed : (v : TransactionOutcome) (x : List OperationResult) → as_failed v ≡ Some x → failed_of x ≡ v
back_failed (outcomes.Failed results) x e = cc
back_failed _ x e = absurd cc

arms_lawful : (k : TransactionResultCode) → IsFormat (outcome_arms k)
arms_lawful codes.Success = arm_lawful success_of as_success _ (λ x. refl) back_success (list_lawful _ _ operation_lawful)
arms_lawful codes.Failed = arm_lawful failed_of as_failed _ (λ x. refl) back_failed (list_lawful _ _ operation_lawful)
arms_lawful codes.TooEarly = nothing_lawful outcomes.TooEarly
arms_lawful codes.TooLate = nothing_lawful outcomes.TooLate
arms_lawful codes.MissingOperation = nothing_lawful outcomes.MissingOperation
arms_lawful codes.Malformed = nothing_lawful outcomes.Malformed
arms_lawful codes.SorobanInvalid = nothing_lawful outcomes.SorobanInvalid

coherent : (k : TransactionResultCode) (v : TransactionOutcome) → (outcome_arms k).fits v → code_of v ≡ k
coherent codes.Success v h =
    arm_kind code_of codes.Success success_of as_success (list 4294967295 operation_format) (λ x. refl) back_success v h
coherent codes.Failed v h =
    arm_kind code_of codes.Failed failed_of as_failed (list 4294967295 operation_format) (λ x. refl) back_failed v h
coherent codes.TooEarly v h = ap code_of h
coherent codes.TooLate v h = ap code_of h
coherent codes.MissingOperation v h = ap code_of h
coherent codes.Malformed v h = ap code_of h
coherent codes.SorobanInvalid v h = ap code_of h

pub outcome_lawful : IsFormat outcome_format
unfolding outcome_format
outcome_lawful = union_lawful code_number code_of_number code_of outcome_arms (record {
  some = codes.Malformed;
  small = code_small;
  there = code_there;
  back = find_kind-back code_number codes_all;
  bodies = arms_lawful;
  coherent = coherent;
})

-- ---- the result of a fee bump's inner transaction: the fee, what became of it, and ext 0

abbrev pub inner_result_of : ℤ × (TransactionOutcome × Unit {0}) → InnerTransactionResult
inner_result_of f = record { fee_charged = f.0; outcome = f.1.0 }

abbrev pub inner_result_fields : InnerTransactionResult → ℤ × (TransactionOutcome × Unit {0})
inner_result_fields result = (result.fee_charged, (result.outcome, tt))

unfoldable pub inner_result_format : Format InnerTransactionResult
inner_result_format = via inner_result_of inner_result_fields (pair signed64 (pair outcome_format (headed 0 (nothing tt))))

pub inner_result_lawful : IsFormat inner_result_format
unfolding inner_result_format
inner_result_lawful = via_lawful inner_result_of inner_result_fields _ (λ f. refl) (λ result. refl)
    (pair_lawful _ _ signed64_lawful (pair_lawful _ _ outcome_lawful (headed_lawful 0 _ (omega arith) (nothing_lawful tt))))

-- ---- the inner transaction's hash and its result

abbrev pub inner_pair_of : Hash × InnerTransactionResult → InnerTransactionResultPair
inner_pair_of f = record { hash = f.0; result = f.1 }

abbrev pub inner_pair_fields : InnerTransactionResultPair → Hash × InnerTransactionResult
inner_pair_fields p = (p.hash, p.result)

unfoldable pub inner_pair_format : Format InnerTransactionResultPair
inner_pair_format = via inner_pair_of inner_pair_fields (pair hash_format inner_result_format)

pub inner_pair_lawful : IsFormat inner_pair_format
unfolding inner_pair_format
inner_pair_lawful =
    via_lawful inner_pair_of inner_pair_fields _ (λ f. refl) (λ p. refl) (pair_lawful _ _ hash_lawful inner_result_lawful)

-- ---- the codes of envelopes: those of transactions alone, and two of fee bumps

abbrev pub envelope_code_number : EnvelopeResultCode → ℕ
envelope_code_number envelope_codes.FeeBumpInnerSuccess = 1
envelope_code_number envelope_codes.FeeBumpInnerFailed = minus 13
envelope_code_number (envelope_codes.Transaction code) = code_number code

abbrev pub transaction_code : TransactionResultCode → EnvelopeResultCode
transaction_code code = envelope_codes.Transaction code

abbrev pub envelope_codes_all : List EnvelopeResultCode
envelope_codes_all = envelope_codes.FeeBumpInnerSuccess ∷ envelope_codes.FeeBumpInnerFailed ∷ map transaction_code codes_all

abbrev pub envelope_code_of_number : ℕ → Option EnvelopeResultCode
envelope_code_of_number = find_kind envelope_code_number envelope_codes_all

unfoldable pub envelope_code_format : Format EnvelopeResultCode
envelope_code_format = enumeration envelope_code_number envelope_code_of_number

envelope_code_small : (k : EnvelopeResultCode) → envelope_code_number k < 2 ^ 32
envelope_code_small envelope_codes.FeeBumpInnerSuccess = omega arith
envelope_code_small envelope_codes.FeeBumpInnerFailed = omega arith
envelope_code_small (envelope_codes.Transaction code) = code_small code

envelope_code_there : (k : EnvelopeResultCode) → envelope_code_of_number (envelope_code_number k) ≡ Some k
envelope_code_there envelope_codes.FeeBumpInnerSuccess = refl
envelope_code_there envelope_codes.FeeBumpInnerFailed = refl
envelope_code_there (envelope_codes.Transaction codes.Success) = refl
envelope_code_there (envelope_codes.Transaction codes.Failed) = refl
envelope_code_there (envelope_codes.Transaction codes.TooEarly) = refl
envelope_code_there (envelope_codes.Transaction codes.TooLate) = refl
envelope_code_there (envelope_codes.Transaction codes.MissingOperation) = refl
envelope_code_there (envelope_codes.Transaction codes.Malformed) = refl
envelope_code_there (envelope_codes.Transaction codes.SorobanInvalid) = refl

pub envelope_code_lawful : IsFormat envelope_code_format
unfolding envelope_code_format
envelope_code_lawful =
    enumeration_lawful envelope_code_number envelope_code_of_number envelope_codes.FeeBumpInnerFailed envelope_code_small
    envelope_code_there (find_kind-back envelope_code_number envelope_codes_all)

-- ---- what became of an envelope: of a transaction alone its outcome; of a fee bump the inner transaction's hash and result,
-- where
-- code 1 says that the inner transaction succeeded, and -13 that it failed

abbrev pub envelope_code_of : EnvelopeOutcome → EnvelopeResultCode
envelope_code_of (envelopes.Transaction outcome) = envelope_codes.Transaction (code_of outcome)
envelope_code_of (envelopes.FeeBumpInnerSuccess inner) = envelope_codes.FeeBumpInnerSuccess
envelope_code_of (envelopes.FeeBumpInnerFailed inner) = envelope_codes.FeeBumpInnerFailed

abbrev pub of_outcome : TransactionOutcome → EnvelopeOutcome
of_outcome outcome = envelopes.Transaction outcome

abbrev pub as_outcome : EnvelopeOutcome → Option TransactionOutcome
as_outcome (envelopes.Transaction outcome) = Some outcome
as_outcome _ = None

abbrev pub of_inner_success : InnerTransactionResultPair → EnvelopeOutcome
of_inner_success inner = envelopes.FeeBumpInnerSuccess inner

abbrev pub as_inner_success : EnvelopeOutcome → Option InnerTransactionResultPair
as_inner_success (envelopes.FeeBumpInnerSuccess inner) = Some inner
as_inner_success _ = None

abbrev pub of_inner_failed : InnerTransactionResultPair → EnvelopeOutcome
of_inner_failed inner = envelopes.FeeBumpInnerFailed inner

abbrev pub as_inner_failed : EnvelopeOutcome → Option InnerTransactionResultPair
as_inner_failed (envelopes.FeeBumpInnerFailed inner) = Some inner
as_inner_failed _ = None

abbrev pub envelope_arms : EnvelopeResultCode → Format EnvelopeOutcome
envelope_arms envelope_codes.FeeBumpInnerSuccess = arm of_inner_success as_inner_success inner_pair_format
envelope_arms envelope_codes.FeeBumpInnerFailed = arm of_inner_failed as_inner_failed inner_pair_format
envelope_arms (envelope_codes.Transaction code) = arm of_outcome as_outcome (outcome_arms code)

unfoldable pub envelope_outcome_format : Format EnvelopeOutcome
envelope_outcome_format = union envelope_code_number envelope_code_of_number envelope_code_of envelope_arms

-- the transaction's own outcome: of a fee bump the inner one's
abbrev pub outcome_in : EnvelopeOutcome → TransactionOutcome
outcome_in (envelopes.Transaction outcome) = outcome
outcome_in (envelopes.FeeBumpInnerSuccess inner) = inner.result.outcome
outcome_in (envelopes.FeeBumpInnerFailed inner) = inner.result.outcome

back_outcome : (v : EnvelopeOutcome) (x : TransactionOutcome) → as_outcome v ≡ Some x → of_outcome x ≡ v
back_outcome (envelopes.Transaction outcome) x e = cc
back_outcome _ x e = absurd cc

back_inner_success : (v : EnvelopeOutcome) (x : InnerTransactionResultPair) → as_inner_success v ≡ Some x → of_inner_success x ≡ v
back_inner_success (envelopes.FeeBumpInnerSuccess inner) x e = cc
back_inner_success _ x e = absurd cc

back_inner_failed : (v : EnvelopeOutcome) (x : InnerTransactionResultPair) → as_inner_failed v ≡ Some x → of_inner_failed x ≡ v
back_inner_failed (envelopes.FeeBumpInnerFailed inner) x e = cc
back_inner_failed _ x e = absurd cc

envelope_arms_lawful : (k : EnvelopeResultCode) → IsFormat (envelope_arms k)
envelope_arms_lawful envelope_codes.FeeBumpInnerSuccess =
    arm_lawful of_inner_success as_inner_success _ (λ x. refl) back_inner_success inner_pair_lawful
envelope_arms_lawful envelope_codes.FeeBumpInnerFailed =
    arm_lawful of_inner_failed as_inner_failed _ (λ x. refl) back_inner_failed inner_pair_lawful
envelope_arms_lawful (envelope_codes.Transaction code) =
    arm_lawful of_outcome as_outcome _ (λ x. refl) back_outcome (arms_lawful code)

envelope_coherent : (k : EnvelopeResultCode) (v : EnvelopeOutcome) → (envelope_arms k).fits v → envelope_code_of v ≡ k
envelope_coherent envelope_codes.FeeBumpInnerSuccess v h =
    arm_kind envelope_code_of envelope_codes.FeeBumpInnerSuccess of_inner_success as_inner_success inner_pair_format
    (λ x. refl) back_inner_success v h
envelope_coherent envelope_codes.FeeBumpInnerFailed v h =
    arm_kind envelope_code_of envelope_codes.FeeBumpInnerFailed of_inner_failed as_inner_failed inner_pair_format
    (λ x. refl) back_inner_failed v h
envelope_coherent (envelope_codes.Transaction code) (envelopes.Transaction outcome) h =
    ap transaction_code (coherent code outcome h)
envelope_coherent (envelope_codes.Transaction code) (envelopes.FeeBumpInnerSuccess inner) h = absurd h
envelope_coherent (envelope_codes.Transaction code) (envelopes.FeeBumpInnerFailed inner) h = absurd h

pub envelope_outcome_lawful : IsFormat envelope_outcome_format
unfolding envelope_outcome_format
envelope_outcome_lawful = union_lawful envelope_code_number envelope_code_of_number envelope_code_of envelope_arms (record {
  some = envelope_codes.Transaction codes.Malformed;
  small = envelope_code_small;
  there = envelope_code_there;
  back = find_kind-back envelope_code_number envelope_codes_all;
  bodies = envelope_arms_lawful;
  coherent = envelope_coherent;
})

-- ---- the result of an envelope: the fee, what became of it, and ext 0

abbrev pub result_of : ℤ × (EnvelopeOutcome × Unit {0}) → TransactionResult
result_of f = record { fee_charged = f.0; outcome = f.1.0 }

abbrev pub result_fields : TransactionResult → ℤ × (EnvelopeOutcome × Unit {0})
result_fields result = (result.fee_charged, (result.outcome, tt))

unfoldable pub result_format : Format TransactionResult
result_format = via result_of result_fields (pair signed64 (pair envelope_outcome_format (headed 0 (nothing tt))))

pub result_lawful : IsFormat result_format
unfolding result_format
result_lawful =
    via_lawful result_of result_fields _ (λ f. refl) (λ result. refl)
    (pair_lawful _ _ signed64_lawful
    (pair_lawful _ _ envelope_outcome_lawful (headed_lawful 0 _ (omega arith) (nothing_lawful tt))))

-- ---- the result set: for each envelope its hash and its result

abbrev pub pair_of : Hash × TransactionResult → TransactionResultPair
pair_of f = record { hash = f.0; result = f.1 }

abbrev pub pair_fields : TransactionResultPair → Hash × TransactionResult
pair_fields p = (p.hash, p.result)

unfoldable pub pair_format : Format TransactionResultPair
pair_format = via pair_of pair_fields (pair hash_format result_format)

pub pair_format_lawful : IsFormat pair_format
unfolding pair_format
pair_format_lawful = via_lawful pair_of pair_fields _ (λ f. refl) (λ p. refl) (pair_lawful _ _ hash_lawful result_lawful)

abbrev pub result_set_of : List TransactionResultPair → ResultSet
result_set_of pairs = record { pairs = pairs }

abbrev pub pairs_of : ResultSet → List TransactionResultPair
pairs_of results = results.pairs

unfoldable pub result_set_format : Format ResultSet
result_set_format = via result_set_of pairs_of (list 4294967295 pair_format)

pub result_set_lawful : IsFormat result_set_format
unfolding result_set_format
result_set_lawful = via_lawful result_set_of pairs_of _ (λ pairs. refl) (λ results. refl) (list_lawful _ _ pair_format_lawful)
