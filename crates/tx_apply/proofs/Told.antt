-- The effect of an envelope is that of what the code makes of its transaction.
use Rattle.std.specs.Option.{option_map}
use Rattle.std.proofs.Common.{◌≡◌, ℕ, Bool, true, false, List, [], ◌∷◌, Option, Some, None, if◌then◌else◌, refl, sym, ap, ◌∙◌}
use Rattle.ledger_types.specs.declared.header.Header.{Header}
use Rattle.ledger_types.specs.declared.verdicts.Verdicts.{Verdicts}
use Rattle.tx_parts.specs.declared.account.MuxedAccount.{MuxedAccount}
use Rattle.tx_xdr.specs.declared.transaction.Operation.{Operation}
use Rattle.tx_xdr.specs.declared.transaction.OperationBody.{OperationBody}
use Rattle.tx_xdr.specs.declared.transaction.OperationBody.TheVariants.{InvokeHostFunction, ExtendFootprintTtl, RestoreFootprint}
use Rattle.invoke_types.specs.declared.host_function.HostFunction.{HostFunction}
use Rattle.tx_xdr.specs.declared.transaction.TransactionExt.{TransactionExt}
use Rattle.tx_xdr.specs.declared.transaction.TransactionExt.TheVariants as exts
use Rattle.tx_xdr.specs.declared.envelope.Envelope.{Envelope}
use Rattle.tx_xdr.specs.declared.envelope.Envelope.TheVariants as envelopes
use Rattle.tx_xdr.specs.Envelope.{transaction_in}
use Rattle.tx_results.specs.Report.{has_preimage}
use Rattle.tx_results.specs.Results.{outcome_in}
use Rattle.tx_results.specs.declared.results.EnvelopeOutcome.TheVariants as outcomes
use Rattle.tx_results.specs.declared.results.TransactionOutcome.{TransactionOutcome}
use Rattle.tx_results.specs.declared.results.TransactionResultPair.{TransactionResultPair}
use Rattle.stage_runs.specs.Maps.{LedgerMap}
use Rattle.stage_runs.specs.Transactions.{Effect, declared_by, footprint_in}
use Rattle.stage_runs.specs.Whole as runs
use Rattle.call_spec.specs.World.{Authority}
use Rattle.call_spec.specs.Invoked.{Invoked, invoked}
use Rattle.apply_spec.specs.Checks.{refusal_of}
use Rattle.apply_spec.specs.Enforced as whole
use Rattle.apply_spec.proofs.Lemmas.{call_effect, extended_effect, invoked_tells}
use Rattle.tx_steps.specs.Outcomes.{Ended, extended, ended_of_call}
use Rattle.tx_apply.specs.Performed.{called, performed, first_performed, unless_refused, ended}

-- the effect of a transaction that ended
abbrev pub told : Header → Envelope → Ended → Effect
told header envelope done = record {
  result = whole.result_pair header.network_id envelope done.outcome;
  success = done.success;
  changes = done.changes;
  extensions = done.extensions;
  used = done.used;
}

module _ (header : Header) (entries : LedgerMap) (envelope : Envelope) where
  abbrev effect_after : whole.Performed → Effect
  effect_after run = runs.effect_of entries envelope (whole.judged header envelope run)

  told_extended : (extend_to : ℕ) (allowed : Bool) → whole.may_extend header.settings (declared_by envelope) extend_to ≡ allowed
      → effect_after (whole.extended header entries (declared_by envelope) extend_to) ≡ told header envelope (extended header entries (declared_by envelope) extend_to)
  told_extended extend_to true e =
      extended_effect header entries envelope extend_to e
      ∙ sym (rw e refl)
  told_extended extend_to false e = rw e refl

  -- a host function, with the resources that are given
  told_called : (authority : Authority) (ext : TransactionExt) → (transaction_in envelope).ext ≡ ext → (function : HostFunction)
      → effect_after (whole.called header authority entries ext function) ≡ told header envelope (called header authority entries ext function)
  told_called authority exts.None e function = refl
  told_called authority (exts.Soroban resources) e function =
      let end : Invoked = invoked header authority resources entries function in
      call_effect header entries envelope end (invoked_tells header authority resources entries function)
      ∙ ap (λ (x : TransactionExt). told header envelope (ended_of_call entries (footprint_in x) end)) e

  told_performed : (verdicts : Verdicts) (source : Option MuxedAccount) (body : OperationBody)
      → effect_after (whole.performed header verdicts entries (transaction_in envelope) source body)
      ≡ told header envelope (performed header verdicts entries (transaction_in envelope) source body)
  told_performed verdicts source (ExtendFootprintTtl extend_to) = told_extended extend_to (whole.may_extend header.settings (declared_by envelope) extend_to) refl
  told_performed verdicts source RestoreFootprint = refl
  told_performed verdicts source (InvokeHostFunction host_function auth) =
      told_called (whole.authority_of verdicts (transaction_in envelope) source auth) (transaction_in envelope).ext refl host_function

  told_first : (verdicts : Verdicts) (operations : List Operation)
      → effect_after (whole.first_performed header verdicts entries (transaction_in envelope) operations)
      ≡ told header envelope (first_performed header verdicts entries (transaction_in envelope) operations)
  told_first verdicts [] = refl
  told_first verdicts (operation ∷ rest) = told_performed verdicts operation.source operation.body

  told_unless : (o : Option TransactionOutcome) (effect : Effect) (done : Ended) → effect ≡ told header envelope done
      → runs.unless_refused (option_map (whole.result_pair header.network_id envelope) o) effect ≡ told header envelope (unless_refused o done)
  told_unless (Some outcome) effect done e = refl
  told_unless None effect done e = e

  pub told_enforced : (verdicts : Verdicts) → whole.enforced header verdicts entries envelope ≡ told header envelope (ended header verdicts entries (transaction_in envelope))
  told_enforced verdicts =
      told_unless (refusal_of header (transaction_in envelope)) (effect_after (whole.first_performed header verdicts entries (transaction_in envelope) (transaction_in envelope).operations))
      (first_performed header verdicts entries (transaction_in envelope) (transaction_in envelope).operations)
      (told_first verdicts (transaction_in envelope).operations)

-- an envelope's result tells of a host function that succeeded exactly if that of its transaction does
pub told_same : (header : Header) (envelope : Envelope) (outcome : TransactionOutcome)
    → has_preimage (outcome_in (whole.envelope_outcome header.network_id envelope outcome)) ≡ has_preimage outcome
told_same header (envelopes.Transaction signed) outcome = refl
told_same header (envelopes.FeeBump signed) outcome =
    let inner = whole.inner_pair header.network_id signed.fee_bump.inner.tx outcome in
    elim (whole.is_success outcome) as (λ (b : Bool). has_preimage (outcome_in (if b then outcomes.FeeBumpInnerSuccess inner else outcomes.FeeBumpInnerFailed inner)) ≡ has_preimage outcome) [ true ↦ refl | false ↦ refl ]

-- what is returned is the effect
pub told_done : (header : Header) (verdicts : Verdicts) (entries : LedgerMap) (envelope : Envelope) (done : Ended) (pair : TransactionResultPair)
    → done ≡ ended header verdicts entries (transaction_in envelope) → pair ≡ whole.result_pair header.network_id envelope done.outcome
    → record { result = pair; success = done.success; changes = done.changes; extensions = done.extensions; used = done.used } ≡ whole.enforced header verdicts entries envelope
told_done header verdicts entries envelope done pair is paired =
    ap (λ (p : TransactionResultPair). let e : Effect = record { result = p; success = done.success; changes = done.changes; extensions = done.extensions; used = done.used } in e) paired
    ∙ ap (told header envelope) is
    ∙ sym (told_enforced header entries envelope verdicts)
