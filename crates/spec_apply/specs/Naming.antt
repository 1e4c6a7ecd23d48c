-- Results with other hashes (own).
use Rattle.std.specs.Prelude.{◌≡◌}
use Rattle.value_types.specs.declared.hash.Hash.{Hash}
use Rattle.tx_xdr.specs.declared.transaction.Footprint.{Footprint}
use Rattle.tx_xdr.specs.declared.envelope.Envelope.{Envelope}
use Rattle.tx_results.specs.Results.{outcome_in}
use Rattle.tx_results.specs.declared.results.InnerTransactionResultPair.{InnerTransactionResultPair}
use Rattle.tx_results.specs.declared.results.TransactionResultPair.{TransactionResultPair}
use Rattle.tx_results.specs.declared.results.EnvelopeOutcome.{EnvelopeOutcome}
use Rattle.tx_results.specs.declared.results.EnvelopeOutcome.TheVariants.{Transaction, FeeBumpInnerSuccess, FeeBumpInnerFailed}
use Rattle.apply_spec.specs.Enforced.{result_pair}
use Rattle.apply_spec.specs.Simulated.{with_footprint}

abbrev pub inner_with : Hash → InnerTransactionResultPair → InnerTransactionResultPair
inner_with hash inner = record inner { hash = hash }

-- only that of a fee bump has a hash
abbrev pub outcome_with : Hash → EnvelopeOutcome → EnvelopeOutcome
outcome_with hash (Transaction outcome) = Transaction outcome
outcome_with hash (FeeBumpInnerSuccess inner) = FeeBumpInnerSuccess (inner_with hash inner)
outcome_with hash (FeeBumpInnerFailed inner) = FeeBumpInnerFailed (inner_with hash inner)

-- It is a result of the envelope with some footprint.
abbrev pub IsResultOf : Hash → Envelope → TransactionResultPair → Type 0
IsResultOf network envelope pair =
    (footprint : Footprint) × (pair ≡ result_pair network (with_footprint footprint envelope) (outcome_in pair.result.outcome))
