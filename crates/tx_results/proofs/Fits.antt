-- Which results have a spelling.
use Rattle.std.specs.Prelude.{FitsSigned}
use Rattle.std.specs.List.{AllByRecursion}
use Rattle.std.specs.Int.{w64}
use Rattle.std.proofs.Common.{◌<◌, ◌^◌, [], ◌∷◌, length, refl, arith}
use Rattle.xdr_spec.specs.Format.{list, signed64}
use Rattle.value_types.specs.Hash.{hash_format}
use Rattle.value_types.specs.declared.hash.Hash.{Hash}
use Rattle.tx_results.specs.Operations.{extend_format, invoke_format, inner_format, operation_format}
use Rattle.tx_results.specs.Results.{outcome_format, inner_result_format, inner_pair_format, envelope_outcome_format, result_format, pair_format, result_set_format}
use Rattle.tx_results.specs.declared.codes.ExtendResult.{ExtendResult}
use Rattle.tx_results.specs.declared.operation.InvokeResult.{InvokeResult}
use Rattle.tx_results.specs.declared.operation.InvokeResult.TheVariants as invokes
use Rattle.tx_results.specs.declared.operation.InnerResult.TheVariants as inners
use Rattle.tx_results.specs.declared.operation.OperationResult.{OperationResult}
use Rattle.tx_results.specs.declared.operation.OperationResult.TheVariants as operations
use Rattle.tx_results.specs.declared.results.TransactionOutcome.{TransactionOutcome}
use Rattle.tx_results.specs.declared.results.TransactionOutcome.TheVariants as outcomes
use Rattle.tx_results.specs.declared.results.InnerTransactionResultPair.{InnerTransactionResultPair}
use Rattle.tx_results.specs.declared.results.EnvelopeOutcome.TheVariants as envelopes
use Rattle.tx_results.specs.declared.results.TransactionResultPair.{TransactionResultPair}
use Rattle.tx_results.specs.declared.results.ResultSet.{ResultSet}

-- ---- operations

pub extend_fits : (result : ExtendResult) → operation_format.fits (operations.Inner (inners.Extend result))
unfolding operation_format inner_format extend_format
extend_fits result = refl

pub not_supported_fits : operation_format.fits operations.NotSupported
unfolding operation_format
not_supported_fits = refl

pub invoke_fits : (result : InvokeResult) → invoke_format.fits result → operation_format.fits (operations.Inner (inners.Invoke result))
unfolding operation_format inner_format
invoke_fits result h = h

pub invoke_success_fits : (preimage : Hash) → hash_format.fits preimage → invoke_format.fits (invokes.Success preimage)
unfolding invoke_format
invoke_success_fits preimage h = h

-- ---- transactions

pub success_fits : (result : OperationResult) → operation_format.fits result → outcome_format.fits (outcomes.Success (result ∷ []))
unfolding outcome_format list
success_fits result h = (omega arith, omega arith, (h, tt))

pub failed_fits : (result : OperationResult) → operation_format.fits result → outcome_format.fits (outcomes.Failed (result ∷ []))
unfolding outcome_format list
failed_fits result h = (omega arith, omega arith, (h, tt))

pub too_early_fits : outcome_format.fits outcomes.TooEarly
unfolding outcome_format
too_early_fits = refl

pub too_late_fits : outcome_format.fits outcomes.TooLate
unfolding outcome_format
too_late_fits = refl

pub missing_operation_fits : outcome_format.fits outcomes.MissingOperation
unfolding outcome_format
missing_operation_fits = refl

pub malformed_fits : outcome_format.fits outcomes.Malformed
unfolding outcome_format
malformed_fits = refl

pub soroban_invalid_fits : outcome_format.fits outcomes.SorobanInvalid
unfolding outcome_format
soroban_invalid_fits = refl

-- ---- envelopes

pub transaction_alone_fits : (outcome : TransactionOutcome) → outcome_format.fits outcome → envelope_outcome_format.fits (envelopes.Transaction outcome)
unfolding outcome_format envelope_outcome_format
transaction_alone_fits outcome h = h

pub inner_pair_fits : (inner : InnerTransactionResultPair) → hash_format.fits inner.hash → FitsSigned w64 inner.result.fee_charged → outcome_format.fits inner.result.outcome → inner_pair_format.fits inner
unfolding inner_pair_format inner_result_format signed64
inner_pair_fits inner hash fee outcome = (hash, (fee, (outcome, refl)))

pub inner_success_fits : (inner : InnerTransactionResultPair) → inner_pair_format.fits inner → envelope_outcome_format.fits (envelopes.FeeBumpInnerSuccess inner)
unfolding envelope_outcome_format
inner_success_fits inner h = h

pub inner_failed_fits : (inner : InnerTransactionResultPair) → inner_pair_format.fits inner → envelope_outcome_format.fits (envelopes.FeeBumpInnerFailed inner)
unfolding envelope_outcome_format
inner_failed_fits inner h = h

pub pair_fits : (pair : TransactionResultPair) → hash_format.fits pair.hash → FitsSigned w64 pair.result.fee_charged → envelope_outcome_format.fits pair.result.outcome → pair_format.fits pair
unfolding pair_format result_format signed64
pair_fits pair hash fee outcome = (hash, (fee, (outcome, refl)))

pub result_set_fits : (results : ResultSet) → length results.pairs < 2 ^ 32 → AllByRecursion pair_format.fits results.pairs → result_set_format.fits results
unfolding result_set_format list
result_set_fits results counted each = (omega arith, counted, each)
