-- The outcome of a transaction with its effect, as the code makes them: without the map that the run leaves (own, after
-- CAP-0046-05 and CAP-0046-12).
use Rattle.std.specs.Prelude.{ℕ, ◌+◌, List, [], ◌∷◌, Option, None, if◌then◌else◌}
use Rattle.budget_meter.specs.declared.budget.Used.{Used}
use Rattle.ledger_types.specs.declared.header.Header.{Header}
use Rattle.invoke_types.specs.declared.success.SuccessPreimage.{SuccessPreimage}
use Rattle.tx_xdr.specs.declared.transaction.Footprint.{Footprint}
use Rattle.tx_results.specs.Report.{is_good_call}
use Rattle.tx_results.specs.declared.codes.ExtendResult.TheVariants as extends
use Rattle.tx_results.specs.declared.operation.InvokeResult.{InvokeResult}
use Rattle.tx_results.specs.declared.operation.InnerResult.TheVariants.{Invoke, Extend}
use Rattle.tx_results.specs.declared.operation.OperationResult.TheVariants.{Inner}
use Rattle.tx_results.specs.declared.results.TransactionOutcome.{TransactionOutcome}
use Rattle.tx_results.specs.declared.results.TransactionOutcome.TheVariants.{Success, Failed}
use Rattle.stage_runs.specs.Maps.{LedgerMap}
use Rattle.stage_runs.specs.Whole as runs
use Rattle.stage_runs.specs.declared.Change.{Change}
use Rattle.stage_runs.specs.declared.Extension.{Extension}
use Rattle.call_spec.specs.World.{next_seq}
use Rattle.call_spec.specs.Invoked.{Invoked}
use Rattle.apply_spec.specs.Enforced.{may_extend, outcome_of_call}
use Rattle.apply_spec.specs.Extending as extending

-- the outcome of a transaction, its success preimage, changes and extensions, and what it used
pub record Ended : Type 0 where
  pub outcome : TransactionOutcome
  pub success : Option SuccessPreimage
  pub changes : List Change
  pub extensions : List Extension
  pub used : Used

-- an outcome that changes nothing
abbrev pub without_changes : TransactionOutcome → Used → Ended
without_changes outcome used = record { outcome = outcome; success = None; changes = []; extensions = []; used = used }

-- the outcome of a transaction that ran no operation
abbrev pub without_effect : TransactionOutcome → Ended
without_effect outcome = without_changes outcome runs.nothing_used

-- EXTEND_FOOTPRINT_TTL
abbrev pub extended : Header → LedgerMap → Footprint → ℕ → Ended
extended header entries footprint extend_to =
    if may_extend header.settings footprint extend_to then record {
      outcome = Success (Inner (Extend extends.Success) ∷ []);
      success = None;
      changes = [];
      extensions = extending.extensions_of (next_seq header) entries footprint.read_only (next_seq header + extend_to);
      used = runs.nothing_used;
    }
    else without_effect (Failed (Inner (Extend extends.Malformed) ∷ []))

-- ---- INVOKE_HOST_FUNCTION

-- a host function that did not succeed
abbrev pub unsuccessful : InvokeResult → Used → Ended
unsuccessful result used = without_changes (Failed (Inner (Invoke result) ∷ [])) used

abbrev pub ended_of_call : LedgerMap → Footprint → Invoked → Ended
ended_of_call entries footprint end = record {
  outcome = outcome_of_call end.result;
  success = end.success;
  changes = if is_good_call end.result then runs.changes_of end.entries footprint.read_write else [];
  extensions = if is_good_call end.result then runs.extensions_of entries end.entries footprint.read_only else [];
  used = end.used;
}
