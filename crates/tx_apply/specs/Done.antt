-- What the calls return, in the terms of the definitions (own).
use Rattle.std.specs.Prelude.{◌≡◌, All, IfSome}
use Rattle.std.specs.Option.{is_some}
use Rattle.invoke_types.specs.Success.{success_format}
use Rattle.ledger_types.specs.Key.{key_format}
use Rattle.tx_results.specs.Report.{has_preimage}
use Rattle.tx_results.specs.Results.{outcome_in, pair_format}
use Rattle.stage_runs.specs.Transactions.{Effect}
use Rattle.tx_apply.specs.declared.envelope.TxDone.{TxDone}
pub use Rattle.tx_steps.specs.Effects.{CanChange}

-- the effect
abbrev pub effect_of : TxDone → Effect
effect_of done = record {
  result = done.result;
  success = done.success;
  changes = done.changes;
  extensions = done.extensions;
  used = done.used;
}

-- A report may have the result, with a success preimage exactly where the result code asks for one. A ledger map may have the
-- changes, and a ledger key has a spelling at each extension.
pub record IsWithin (done : TxDone) : Type 0 where
  pub result : pair_format.fits done.result
  pub success : IfSome done.success success_format.fits
  pub preimage : is_some done.success ≡ has_preimage (outcome_in done.result.result.outcome)
  pub changes : All CanChange done.changes
  pub extensions : All (λ e. key_format.fits e.key) done.extensions
