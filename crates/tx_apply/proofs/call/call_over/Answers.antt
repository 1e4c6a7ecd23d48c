use Rattle.tx_results.specs.declared.operation.InvokeResult.TheVariants as invokes
use Rattle.tx_steps.specs.Outcomes.{unsuccessful}
use Rattle.tx_steps.proofs.Lemmas.{call_failed_can, limit_fits, malformed_call_fits, archived_fits, can_from}
use Rattle.tx_apply.proofs.call.call_over.Goals as goal

pub returns-in_default-clause-can : goal.returns-in_default-clause-can
returns-in_default-clause-can g c =
    can_from c.failed_call.result (unsuccessful invokes.Malformed c.nothing_used.result) (call_failed_can invokes.Malformed c.nothing_used.result malformed_call_fits) c.failed_call.ensures.done

pub returns-then-declares_archived-clause-can : goal.returns-then-declares_archived-clause-can
returns-then-declares_archived-clause-can g c =
    let used = c.nothing_used-then-declares_archived.result in
    can_from c.failed_call-then-declares_archived.result (unsuccessful invokes.EntryArchived used) (call_failed_can invokes.EntryArchived used archived_fits) c.failed_call-then-declares_archived.ensures.done

pub returns-then-reads_more-clause-can : goal.returns-then-reads_more-clause-can
returns-then-reads_more-clause-can g c =
    let used = c.nothing_used-then-reads_more.result in
    can_from c.failed_call-then-reads_more.result (unsuccessful invokes.ResourceLimitExceeded used) (call_failed_can invokes.ResourceLimitExceeded used limit_fits) c.failed_call-then-reads_more.ensures.done
