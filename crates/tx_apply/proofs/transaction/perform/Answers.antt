use Rattle.std.proofs.Common.{List, All, sym, ap, subst, [], ◌∷◌, ◌∙◌}
use Rattle.auth_types.specs.AuthEntry.{auth_entry_format}
use Rattle.auth_types.specs.declared.auth_entry.AuthEntry.{AuthEntry}
use Rattle.tx_xdr.specs.Operation.{body_format}
use Rattle.tx_xdr.specs.declared.transaction.OperationBody.{OperationBody}
use Rattle.tx_results.specs.declared.operation.OperationResult.TheVariants.{NotSupported}
use Rattle.tx_results.specs.declared.results.TransactionOutcome.TheVariants.{Failed}
use Rattle.call_spec.specs.World.{Authority}
use Rattle.tx_steps.specs.Outcomes.{without_effect}
use Rattle.tx_steps.proofs.Lemmas.{restore_can, can_from}
use Rattle.tx_apply.proofs.Fitting.{auth_fits, function_fits}
use Rattle.tx_apply.proofs.transaction.perform.Goals as goal

pub call_with-requires-clause-function : goal.call_with-requires-clause-function
call_with-requires-clause-function g c =
    function_fits c.in-InvokeHostFunction.host_function c.in-InvokeHostFunction.auth (subst (λ (b : OperationBody). body_format.fits b) c.in-InvokeHostFunction.is c.requires.body)

pub returns-in-RestoreFootprint-clause-can : goal.returns-in-RestoreFootprint-clause-can
returns-in-RestoreFootprint-clause-can g c = can_from c.failed.result (without_effect (Failed (NotSupported ∷ []))) restore_can c.failed.ensures.done

pub call_with-requires-clause-entries : goal.call_with-requires-clause-entries
call_with-requires-clause-entries g c =
    let fits = auth_fits c.in-InvokeHostFunction.host_function c.in-InvokeHostFunction.auth (subst (λ (b : OperationBody). body_format.fits b) c.in-InvokeHostFunction.is c.requires.body) in
    subst (λ (es : List AuthEntry). All auth_entry_format.fits es) (sym (ap (λ (a : Authority). a.entries) c.authority_of-authority.ensures ∙ c.as_slice.ensures)) fits
