-- The result of an envelope, made of its result with another footprint.
use Rattle.std.specs.Prelude.{FitsSigned}
use Rattle.std.proofs.Common.{◌≡◌, ℤ, w64, refl, sym, ap, subst, ◌∙◌}
use Rattle.xdr_spec.specs.Format.{signed64}
use Rattle.value_types.specs.Hash.{hash_format}
use Rattle.value_types.specs.declared.hash.Hash.{Hash}
use Rattle.ledger_types.specs.declared.header.Header.{Header}
use Rattle.ledger_types.specs.declared.verdicts.Verdicts.{Verdicts}
use Rattle.tx_xdr.specs.declared.envelope.Envelope.{Envelope}
use Rattle.tx_results.specs.Results.{outcome_in, envelope_outcome_format, inner_pair_format, pair_format, result_format}
use Rattle.tx_results.specs.declared.results.EnvelopeOutcome.{EnvelopeOutcome}
use Rattle.tx_results.specs.declared.results.EnvelopeOutcome.TheVariants.{FeeBumpInnerSuccess, FeeBumpInnerFailed}
use Rattle.tx_results.specs.declared.results.InnerTransactionResultPair.{InnerTransactionResultPair}
use Rattle.tx_results.specs.declared.results.TransactionResultPair.{TransactionResultPair}
use Rattle.stage_runs.specs.Maps.{LedgerMap}
use Rattle.apply_spec.specs.Enforced.{result_pair}
use Rattle.apply_spec.specs.Simulated.{Simulated, simulated}
use Rattle.apply_spec.proofs.Lemmas.{enforced_own}
use Rattle.spec_apply.specs.Naming.{inner_with, IsResultOf}

module _ (header : Header) (verdicts : Verdicts) (entries : LedgerMap) (envelope : Envelope) where
  abbrev simulation : Simulated
  simulation = simulated header verdicts entries envelope

  -- what is simulated is a result of the envelope with the footprint that was found
  pub simulated_result : (pair : TransactionResultPair) → pair ≡ simulation.effect.result → IsResultOf header.network_id envelope pair
  simulated_result pair is = (
    simulation.footprint,
    is ∙ enforced_own header verdicts entries simulation.envelope
        ∙ ap (λ (p : TransactionResultPair). result_pair header.network_id simulation.envelope (outcome_in p.result.outcome)) (sym is),
  )

-- ---- what fits

inner_with_fits : (hash : Hash) (inner : InnerTransactionResultPair) → hash_format.fits hash → inner_pair_format.fits inner → inner_pair_format.fits (inner_with hash inner)
unfolding inner_pair_format
inner_with_fits hash inner is h = (is, h.1)

-- the inner result of a fee bump's outcome
pub success_inner : (inner : InnerTransactionResultPair) → envelope_outcome_format.fits (FeeBumpInnerSuccess inner) → inner_pair_format.fits inner
unfolding envelope_outcome_format
success_inner inner h = h

pub failed_inner : (inner : InnerTransactionResultPair) → envelope_outcome_format.fits (FeeBumpInnerFailed inner) → inner_pair_format.fits inner
unfolding envelope_outcome_format
failed_inner inner h = h

pub inner_fits : (inner new : InnerTransactionResultPair) (hash : Hash) → new ≡ inner_with hash inner → hash_format.fits hash → inner_pair_format.fits inner
    → inner_pair_format.fits new
inner_fits inner new hash is fits h = subst inner_pair_format.fits (sym is) (inner_with_fits hash inner fits h)

pub pair_outcome : (pair : TransactionResultPair) → pair_format.fits pair → envelope_outcome_format.fits pair.result.outcome
unfolding pair_format result_format
pair_outcome pair h = h.1.1.0

-- the fee fits its type
pub pair_fee : (pair : TransactionResultPair) → pair_format.fits pair → FitsSigned w64 pair.result.fee_charged
unfolding pair_format result_format signed64
pair_fee pair h = h.1.0

-- a result with another hash and another outcome
pub pair_again : (pair : TransactionResultPair) (hash : Hash) (fee : ℤ) (outcome : EnvelopeOutcome) → fee ≡ pair.result.fee_charged → pair_format.fits pair
    → hash_format.fits hash → envelope_outcome_format.fits outcome
    → pair_format.fits (record { hash = hash; result = record { fee_charged = fee; outcome = outcome } })
unfolding pair_format result_format
pair_again pair hash fee outcome same h is new = (is, (subst signed64.fits (sym same) h.1.0, (new, refl)))
