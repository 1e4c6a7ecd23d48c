use Rattle.std.proofs.Common.{sym, ap, subst, ◌∙◌}
use Rattle.tx_xdr.specs.Transaction.{transaction_format}
use Rattle.tx_xdr.specs.declared.transaction.Transaction.{Transaction}
use Rattle.tx_xdr.proofs.Lemmas.{transaction_in_fits}
use Rattle.tx_results.specs.Report.{has_preimage}
use Rattle.tx_results.specs.Results.{outcome_in}
use Rattle.tx_results.specs.declared.results.TransactionResultPair.{TransactionResultPair}
use Rattle.apply_spec.proofs.Lemmas.{step_framed}
use Rattle.tx_apply.specs.Performed.{ended}
use Rattle.tx_steps.specs.Effects.{ended_of}
use Rattle.tx_apply.proofs.Told.{told_done, told_same}
use Rattle.tx_apply.proofs.envelope.enforce_watched.Goals as goal

pub run_transaction-requires-clause-fits : goal.run_transaction-requires-clause-fits
run_transaction-requires-clause-fits g c =
    subst (λ (tx : Transaction). transaction_format.fits tx) (sym c.transaction.ensures) (transaction_in_fits c.args.envelope.now c.requires.fits)

pub result_pair-requires-clause-outcome : goal.result_pair-requires-clause-outcome
result_pair-requires-clause-outcome g c = c.in_ok-done.ensures.can.outcome

pub returns-clause-done : goal.returns-clause-done
returns-clause-done g c =
    let header = c.args.header.now in
    let entries = g.G.Ground.map c.args.ground.now in
    told_done header c.args.verdicts.now entries c.args.envelope.now (ended_of c.in_ok-done.done) c.in_ok-result.result
    (c.in_ok-done.ensures.done ∙ ap (ended header c.args.verdicts.now entries) c.transaction.ensures) c.in_ok-result.ensures.value

pub returns-clause-within : goal.returns-clause-within
returns-clause-within g c =
    let can = c.in_ok-done.ensures.can in
    record {
      result = c.in_ok-result.ensures.fits;
      success = can.success;
      preimage = can.preimage
          ∙ sym (ap (λ (p : TransactionResultPair). has_preimage (outcome_in p.result.outcome)) c.in_ok-result.ensures.value
          ∙ told_same c.args.header.now c.args.envelope.now c.in_ok-done.done.outcome);
      changes = can.changes;
      extensions = can.extensions;
    }

pub returns-clause-frame : goal.returns-clause-frame
returns-clause-frame g c = λ other agree.
    let header = c.args.header.now in
    let verdicts = c.args.verdicts.now in
    let entries = g.G.Ground.map c.args.ground.now in
    let envelope = c.args.envelope.now in
    let done = told_done header verdicts entries envelope (ended_of c.in_ok-done.done) c.in_ok-result.result
    (c.in_ok-done.ensures.done ∙ ap (ended header verdicts entries) c.transaction.ensures) c.in_ok-result.ensures.value in
    sym (done ∙ (step_framed header verdicts).framed entries other envelope agree)
