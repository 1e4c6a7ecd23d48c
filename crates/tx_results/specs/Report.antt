-- The report of a set (own): the results, and for each transaction what its INVOKE_HOST_FUNCTION returned: a boolean that is 1
-- exactly where the list has a success preimage, and then that.
use Rattle.std.specs.Prelude.{◌≡◌, ℕ, Bool, true, false, List, ◌++◌, Option, map}
use Rattle.std.specs.List.{flat_map, list_any}
use Rattle.std.specs.Option.{is_some}
use Rattle.xdr_spec.specs.Format.{optional}
use Rattle.invoke_types.specs.Success.{success_format}
use Rattle.invoke_types.specs.declared.success.SuccessPreimage.{SuccessPreimage}
use Rattle.tx_results.specs.Results.{result_set_format, outcome_in}
use Rattle.tx_results.specs.declared.operation.InvokeResult.{InvokeResult}
use Rattle.tx_results.specs.declared.operation.InvokeResult.TheVariants as invokes
use Rattle.tx_results.specs.declared.operation.InnerResult.{InnerResult}
use Rattle.tx_results.specs.declared.operation.InnerResult.TheVariants as inners
use Rattle.tx_results.specs.declared.operation.OperationResult.{OperationResult}
use Rattle.tx_results.specs.declared.operation.OperationResult.TheVariants as operations
use Rattle.tx_results.specs.declared.results.TransactionOutcome.{TransactionOutcome}
use Rattle.tx_results.specs.declared.results.TransactionOutcome.TheVariants as outcomes
use Rattle.tx_results.specs.declared.results.TransactionResultPair.{TransactionResultPair}
use Rattle.tx_results.specs.declared.results.ResultSet.{ResultSet}

abbrev pub report_bytes : ResultSet → List (Option SuccessPreimage) → List ℕ
report_bytes results successes = result_set_format.spell results ++ flat_map (optional success_format).spell successes

-- ---- where a preimage stands: exactly where an INVOKE_HOST_FUNCTION ended in SUCCESS, of a fee bump that of the inner
-- transaction

abbrev pub is_good_call : InvokeResult → Bool
is_good_call (invokes.Success preimage) = true
is_good_call _ = false

abbrev pub is_good_inner : InnerResult → Bool
is_good_inner (inners.Invoke result) = is_good_call result
is_good_inner _ = false

abbrev pub is_good_operation : OperationResult → Bool
is_good_operation (operations.Inner result) = is_good_inner result
is_good_operation _ = false

abbrev pub has_preimage : TransactionOutcome → Bool
has_preimage (outcomes.Success results) = list_any is_good_operation results
has_preimage _ = false

abbrev pub HavePreimages : List TransactionResultPair → List (Option SuccessPreimage) → Type 0
HavePreimages pairs successes = map is_some successes ≡ map (λ pair. has_preimage (outcome_in pair.result.outcome)) pairs
