-- The file that `simulate` stores and the lines that it prints (own; data and results are those of the Stellar XDR files).
use Rattle.std.specs.Prelude.{ℕ, pos, List, [], ◌∷◌, ◌++◌, length, codes, decimal}
use Rattle.budget_meter.specs.declared.budget.Used.{Used}
use Rattle.xdr_spec.specs.Format.{optional}
use Rattle.invoke_types.specs.Success.{success_format}
use Rattle.ledger_types.specs.declared.header.Header.{Header}
use Rattle.ledger_types.specs.declared.verdicts.Verdicts.{Verdicts}
use Rattle.tx_xdr.specs.Soroban.{soroban_format}
use Rattle.tx_xdr.specs.Envelope.{transaction_in}
use Rattle.tx_xdr.specs.declared.transaction.Footprint.{Footprint}
use Rattle.tx_xdr.specs.declared.transaction.SorobanData.{SorobanData}
use Rattle.tx_xdr.specs.declared.transaction.TransactionExt.{TransactionExt}
use Rattle.tx_xdr.specs.declared.transaction.TransactionExt.TheVariants as exts
use Rattle.tx_xdr.specs.declared.envelope.Envelope.{Envelope}
use Rattle.tx_results.specs.Results.{result_format, outcome_in}
use Rattle.tx_results.specs.declared.codes.ExtendResult.{ExtendResult}
use Rattle.tx_results.specs.declared.codes.ExtendResult.TheVariants as extends
use Rattle.tx_results.specs.declared.operation.InvokeResult.{InvokeResult}
use Rattle.tx_results.specs.declared.operation.InvokeResult.TheVariants as invokes
use Rattle.tx_results.specs.declared.operation.InnerResult.{InnerResult}
use Rattle.tx_results.specs.declared.operation.InnerResult.TheVariants as inners
use Rattle.tx_results.specs.declared.operation.OperationResult.{OperationResult}
use Rattle.tx_results.specs.declared.operation.OperationResult.TheVariants as operations
use Rattle.tx_results.specs.declared.results.TransactionOutcome.{TransactionOutcome}
use Rattle.tx_results.specs.declared.results.TransactionOutcome.TheVariants.{Success, Failed, TooEarly, TooLate, MissingOperation}
use Rattle.tx_results.specs.declared.results.TransactionOutcome.TheVariants.{Malformed, SorobanInvalid}
use Rattle.tx_results.specs.declared.results.EnvelopeOutcome.{EnvelopeOutcome}
use Rattle.tx_results.specs.declared.results.EnvelopeOutcome.TheVariants as outcomes
use Rattle.stage_runs.specs.Maps.{LedgerMap}
use Rattle.apply_spec.specs.Simulated.{Simulated, simulated}

-- ---- the file

-- the Soroban data of a transaction; without any, the footprint is empty and the resources are 0
abbrev pub data_of : TransactionExt → SorobanData
data_of exts.None = record {
  footprint = record { read_only = []; read_write = [] };
  instructions = 0;
  disk_read_bytes = 0;
  write_bytes = 0;
  resource_fee = pos 0;
}
data_of (exts.Soroban resources) = resources

-- The Soroban data with the recorded footprint, the result, and a boolean that is 1 if an INVOKE_HOST_FUNCTION succeeded, and
-- then its preimage.
abbrev pub simulation_bytes : Simulated → List ℕ
simulation_bytes s =
    soroban_format.spell (data_of (transaction_in s.envelope).ext)
    ++ (result_format.spell s.effect.result.result ++ (optional success_format).spell s.effect.success)

-- ---- the lines

-- the result code of a transaction
abbrev pub outcome_text : TransactionOutcome → List ℕ
outcome_text (Success results) = codes "0"
outcome_text (Failed results) = codes "-1"
outcome_text TooEarly = codes "-2"
outcome_text TooLate = codes "-3"
outcome_text MissingOperation = codes "-4"
outcome_text Malformed = codes "-16"
outcome_text SorobanInvalid = codes "-17"

-- the result code of an envelope: of a fee bump the outer one
abbrev pub result_text : EnvelopeOutcome → List ℕ
result_text (outcomes.Transaction outcome) = outcome_text outcome
result_text (outcomes.FeeBumpInnerSuccess inner) = codes "1"
result_text (outcomes.FeeBumpInnerFailed inner) = codes "-13"

abbrev pub invoke_text : InvokeResult → List ℕ
invoke_text (invokes.Success preimage) = codes "0"
invoke_text invokes.Malformed = codes "-1"
invoke_text invokes.Trapped = codes "-2"
invoke_text invokes.ResourceLimitExceeded = codes "-3"
invoke_text invokes.EntryArchived = codes "-4"

abbrev pub extend_text : ExtendResult → List ℕ
extend_text extends.Success = codes "0"
extend_text extends.Malformed = codes "-1"

abbrev pub inner_text : InnerResult → List ℕ
inner_text (inners.Invoke result) = invoke_text result
inner_text (inners.Extend result) = extend_text result

-- the code of an operation's result: the inner one, or that of opNOT_SUPPORTED
abbrev pub operation_text : OperationResult → List ℕ
operation_text (operations.Inner result) = inner_text result
operation_text operations.NotSupported = codes "-3"

-- of the first operation; `-` if there is no result of an operation
abbrev pub first_text : List OperationResult → List ℕ
first_text [] = codes "-"
first_text (result ∷ rest) = operation_text result

abbrev pub operations_text : TransactionOutcome → List ℕ
operations_text (Success results) = first_text results
operations_text (Failed results) = first_text results
operations_text _ = codes "-"

-- `result TX OP`: of a fee bump the outer code and the inner operation's
abbrev pub result_line : EnvelopeOutcome → List ℕ
result_line outcome =
    codes "result " ++ (result_text outcome ++ (codes " " ++ (operations_text (outcome_in outcome) ++ codes "\n")))

-- `used I instructions, M memory`
abbrev pub used_line : Used → List ℕ
used_line used =
    codes "used " ++ (decimal used.instructions ++ (codes " instructions, " ++ (decimal used.memory ++ codes " memory\n")))

-- `footprint R read-only, W read-write`
abbrev pub footprint_line : Footprint → List ℕ
footprint_line footprint =
    codes "footprint "
    ++ (decimal (length footprint.read_only)
    ++ (codes " read-only, " ++ (decimal (length footprint.read_write) ++ codes " read-write\n")))

abbrev pub simulation_lines : Simulated → List ℕ
simulation_lines s = result_line s.effect.result.result.outcome ++ (used_line s.used ++ footprint_line s.footprint)

-- ---- both

-- the bytes that are stored, and the lines that are printed
pub record SimulationOutputs : Type 0 where
  pub file : List ℕ
  pub lines : List ℕ

abbrev pub simulation_outputs : Header → Verdicts → LedgerMap → Envelope → SimulationOutputs
simulation_outputs header verdicts entries envelope = let s = simulated header verdicts entries envelope in record {
  file = simulation_bytes s;
  lines = simulation_lines s;
}
