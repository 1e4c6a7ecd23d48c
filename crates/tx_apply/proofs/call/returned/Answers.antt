use Rattle.std.specs.Prelude.{nat_lt, if◌then◌else◌}
use Rattle.std.proofs.Common.{◌≡◌, Bool, true, false, List, ap, sym, subst, ◌∙◌}
use Rattle.budget_meter.specs.declared.budget.Used.{Used}
use Rattle.invoke_types.specs.declared.event.ContractEvent.{ContractEvent}
use Rattle.invoke_types.specs.declared.success.SuccessPreimage.{SuccessPreimage}
use Rattle.tx_results.specs.declared.operation.InvokeResult.TheVariants as invokes
use Rattle.ledger_spec.specs.LedgerMap.{LedgerMap}
use Rattle.contract_storage.specs.Differences.{AreDifferences}
use Rattle.contract_storage.specs.declared.changes.Change.{Change}
use Rattle.call_spec.specs.Invoked as spec
use Rattle.call_spec.specs.Invoked.{written_bytes}
use Rattle.tx_steps.specs.Outcomes.{unsuccessful, ended_of_call}
use Rattle.tx_steps.specs.CallResults.{successful_with}
use Rattle.tx_steps.proofs.Lemmas.{call_failed_can, limit_fits, can_from, done_from}
use Rattle.tx_apply.proofs.Ending.{if_ok}
use Rattle.tx_apply.proofs.call.returned.Goals as goal

pub returns-then-writes_more-clause-done : goal.returns-then-writes_more-clause-done
returns-then-writes_more-clause-done g c =
    let old = g.G.Ground.map c.args.ground.now in
    let new = c.args.host.ledger.storage.map in
    let used = c.args.host.ledger.budget.used in
    let resources = c.args.resources.now in
    let are : AreDifferences old new c.deref.result.now =
    subst (λ (changes : List Change). AreDifferences old new changes) (sym c.deref.ensures.value)
    (subst (λ (m : LedgerMap). AreDifferences m new c.in_ok-changes.changes.items) c.requires.base c.in_ok-changes.ensures) in
    let more : nat_lt resources.write_bytes (written_bytes c.args.n old new) ≡ true = sym (c.writes_more.ensures new are) ∙ c.if-writes_more.true in
    done_from c.failed_call.result (unsuccessful invokes.ResourceLimitExceeded c.spent-used.result) _
    (ap (λ (u : Used). unsuccessful invokes.ResourceLimitExceeded u) c.spent-used.ensures.sums
    ∙ sym (ap (λ (b : Bool). ended_of_call old resources.footprint (if b then spec.unsuccessful invokes.ResourceLimitExceeded old used
    else successful_with (record { return_value = c.args.value; events = c.args.host.ledger.events }) new used)) more))
    c.failed_call.ensures.done

pub returns-then-writes_more-clause-can : goal.returns-then-writes_more-clause-can
returns-then-writes_more-clause-can g c =
    can_from c.failed_call.result (unsuccessful invokes.ResourceLimitExceeded c.spent-used.result) (call_failed_can invokes.ResourceLimitExceeded c.spent-used.result limit_fits) c.failed_call.ensures.done

pub succeeded-requires-clause-changes : goal.succeeded-requires-clause-changes
succeeded-requires-clause-changes g c k d lt =
    let are : AreDifferences c.args.host.ledger.storage.base c.args.host.ledger.storage.map c.deref-2.result.now =
    subst (λ (changes : List Change). AreDifferences c.args.host.ledger.storage.base c.args.host.ledger.storage.map changes) (sym c.deref-2.ensures.value) c.in_ok-changes.ensures in
    let one = are.each k d lt in
    record { fits = one.fits; kept = one.kept }

pub returns-clause-done : goal.returns-clause-done
returns-clause-done g c =
    let old = g.G.Ground.map c.args.ground.now in
    let new = c.args.host.ledger.storage.map in
    let used = c.args.host.ledger.budget.used in
    let resources = c.args.resources.now in
    let footprint = resources.footprint in
    let success : SuccessPreimage = record { return_value = c.args.value; events = c.args.host.ledger.events } in
    let found : AreDifferences old new c.in_ok-changes.changes.items = subst (λ (m : LedgerMap). AreDifferences m new c.in_ok-changes.changes.items) c.requires.base c.in_ok-changes.ensures in
    let first : AreDifferences old new c.deref.result.now = subst (λ (changes : List Change). AreDifferences old new changes) (sym c.deref.ensures.value) found in
    let are : AreDifferences old new c.deref-2.result.now = subst (λ (changes : List Change). AreDifferences old new changes) (sym c.deref-2.ensures.value) found in
    let few : nat_lt resources.write_bytes (written_bytes c.args.n old new) ≡ false = sym (c.writes_more.ensures new first) ∙ c.if-writes_more.false in
    let made : c.success_of-success.result ≡ success = c.success_of-success.ensures.value ∙ ap (λ (es : List ContractEvent). record { return_value = c.args.value; events = es }) c.parts_of-events.ensures.events in
    if_ok c.succeeded.result
    (λ done is. is new are ∙ ap (λ (u : Used). ended_of_call old footprint (successful_with c.success_of-success.result new u)) c.spent-used.ensures.sums
    ∙ ap (λ (s : SuccessPreimage). ended_of_call old footprint (successful_with s new used)) made
    ∙ sym (ap (λ (b : Bool). ended_of_call old footprint (if b then spec.unsuccessful invokes.ResourceLimitExceeded old used else successful_with success new used)) few))
    c.succeeded.ensures.done
