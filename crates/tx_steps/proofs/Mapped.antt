-- Facts of results, carried over.
use Rattle.std.specs.Prelude.{IsSomeAnd}
use Rattle.std.proofs.Common.{◌≡◌, Result, Ok, Err, IfOk, IfSome, sym, ap, subst, ◌∙◌}
use Rattle.xdr_core.specs.declared.error.NoMemory.{NoMemory}
use Rattle.budget_meter.specs.declared.budget.Used.{Used}
use Rattle.tx_xdr.specs.declared.transaction.Footprint.{Footprint}
use Rattle.tx_results.specs.declared.operation.InvokeResult.TheVariants.{Trapped, ResourceLimitExceeded}
use Rattle.ledger_spec.specs.LedgerMap.{LedgerMap}
use Rattle.call_spec.specs.Invoked as spec
use Rattle.call_spec.specs.Invoked.{Invoked}
use Rattle.host_spec.specs.declared.error.HostErr.{HostErr}
use Rattle.host_spec.specs.declared.error.HostErr.TheVariants as ends
use Rattle.tx_steps.specs.declared.results.TransactionDone.{TransactionDone}
use Rattle.tx_steps.specs.CallResults.{result_of}
use Rattle.tx_steps.specs.Outcomes.{Ended, unsuccessful, ended_of_call}
use Rattle.tx_steps.specs.Effects.{ended_of, CanEnd}
use Rattle.tx_steps.proofs.Effects.{call_failed_can, trapped_fits, limit_fits}

abbrev Ran : Type 0 → Type 0
Ran W = Result (TransactionDone W) NoMemory

-- what is returned, if it is this outcome
pub can_from : {W : Type 0} (r : Ran W) (e : Ended) → CanEnd e → IfOk r (λ done. ended_of done ≡ e) → IfOk r (λ done. CanEnd (ended_of done))
can_from (Ok done) e can h = subst CanEnd (sym h) can
can_from (Err x) e can h = tt

-- what is returned is the other one of two equal outcomes
pub done_from : {W : Type 0} (r : Ran W) (e f : Ended) → e ≡ f → IfOk r (λ done. ended_of done ≡ e) → IfOk r (λ done. ended_of done ≡ f)
done_from (Ok done) e f is h = h ∙ is
done_from (Err x) e f is h = tt

-- ---- a host function that ended without a value

abbrev IsEndOf : {W : Type 0} → HostErr → Used → TransactionDone W → Type 0
IsEndOf end used done = IsSomeAnd (result_of end) (λ r. ended_of done ≡ unsuccessful r used)

module _ (used : Used) where
  pub ended_done : {W : Type 0} (m : LedgerMap) (footprint : Footprint) (x : Invoked) (r : Ran W) (end : HostErr) → IfSome (result_of end) (λ k. spec.unsuccessful k m used ≡ x) → IfOk r (IsEndOf end used)
      → IfOk r (λ done. ended_of done ≡ ended_of_call m footprint x)
  ended_done m footprint x (Err e) end is h = tt
  ended_done m footprint x (Ok done) (ends.Failed e) is h = h ∙ ap (ended_of_call m footprint) is
  ended_done m footprint x (Ok done) ends.Spent is h = h ∙ ap (ended_of_call m footprint) is
  ended_done m footprint x (Ok done) (ends.Undeclared key) is h = h ∙ ap (ended_of_call m footprint) is
  ended_done m footprint x (Ok done) (ends.Archived key) is h = h ∙ ap (ended_of_call m footprint) is
  ended_done m footprint x (Ok done) ends.NoMemory is h = absurd h

  pub ended_can : {W : Type 0} (r : Ran W) (end : HostErr) → IfOk r (IsEndOf end used) → IfOk r (λ done. CanEnd (ended_of done))
  ended_can (Err e) end h = tt
  ended_can (Ok done) (ends.Failed e) h = subst CanEnd (sym h) (call_failed_can Trapped used trapped_fits)
  ended_can (Ok done) ends.Spent h = subst CanEnd (sym h) (call_failed_can ResourceLimitExceeded used limit_fits)
  ended_can (Ok done) (ends.Undeclared key) h = subst CanEnd (sym h) (call_failed_can Trapped used trapped_fits)
  ended_can (Ok done) (ends.Archived key) h = subst CanEnd (sym h) (call_failed_can Trapped used trapped_fits)
  ended_can (Ok done) ends.NoMemory h = absurd h
