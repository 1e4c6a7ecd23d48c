-- The outcome of a transaction with its effect, as the code returns it (own).
use Rattle.std.specs.Prelude.{◌≡◌, All, IfSome}
use Rattle.std.specs.Option.{is_some}
use Rattle.invoke_types.specs.Success.{success_format}
use Rattle.ledger_types.specs.Key.{key_format}
use Rattle.ledger_spec.specs.LedgerMap.{IsKeptAt, key_bytes}
use Rattle.tx_results.specs.Report.{has_preimage}
use Rattle.tx_results.specs.Results.{outcome_format}
use Rattle.stage_runs.specs.declared.Change.{Change}
use Rattle.tx_steps.specs.declared.results.TransactionDone.{TransactionDone}
use Rattle.tx_steps.specs.Outcomes.{Ended}

abbrev pub ended_of : {W : Type 0} → TransactionDone W → Ended
ended_of done = record {
  outcome = done.outcome;
  success = done.success;
  changes = done.changes;
  extensions = done.extensions;
  used = done.used;
}

-- a ledger map may have the new entry at its key
pub record CanChange (change : Change) : Type 0 where
  pub key : key_format.fits change.key
  pub after : IfSome change.after (IsKeptAt (key_bytes change.key))

-- A transaction result may have the outcome, with a success preimage exactly where the outcome asks for one. A ledger map may
-- have the changes, and a ledger key has a spelling at each extension.
pub record CanEnd (done : Ended) : Type 0 where
  pub outcome : outcome_format.fits done.outcome
  pub success : IfSome done.success success_format.fits
  pub preimage : is_some done.success ≡ has_preimage done.outcome
  pub changes : All CanChange done.changes
  pub extensions : All (λ e. key_format.fits e.key) done.extensions
