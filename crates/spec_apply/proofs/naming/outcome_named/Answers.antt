use Rattle.std.proofs.Common.{subst}
use Rattle.tx_results.specs.Results.{envelope_outcome_format}
use Rattle.tx_results.specs.declared.results.EnvelopeOutcome.{EnvelopeOutcome}
use Rattle.spec_apply.proofs.Names.{failed_inner, success_inner}
use Rattle.spec_apply.proofs.naming.outcome_named.Goals as goal

pub inner_named-requires-clause-inner : goal.inner_named-requires-clause-inner
inner_named-requires-clause-inner c =
    success_inner c.in-FeeBumpInnerSuccess.inner (subst (λ (o : EnvelopeOutcome). envelope_outcome_format.fits o) c.in-FeeBumpInnerSuccess.is c.requires.outcome)

pub inner_named-requires-in-FeeBumpInnerFailed-clause-inner : goal.inner_named-requires-in-FeeBumpInnerFailed-clause-inner
inner_named-requires-in-FeeBumpInnerFailed-clause-inner c =
    failed_inner c.in-FeeBumpInnerFailed.inner (subst (λ (o : EnvelopeOutcome). envelope_outcome_format.fits o) c.in-FeeBumpInnerFailed.is c.requires.outcome)

pub returns-in_ok-inner_named-in-FeeBumpInnerSuccess-clause-fits : goal.returns-in_ok-inner_named-in-FeeBumpInnerSuccess-clause-fits
unfolding envelope_outcome_format
returns-in_ok-inner_named-in-FeeBumpInnerSuccess-clause-fits c = c.in_ok-inner_named-in-FeeBumpInnerSuccess.ensures.fits

pub returns-in_ok-inner_named-in-FeeBumpInnerFailed-clause-fits : goal.returns-in_ok-inner_named-in-FeeBumpInnerFailed-clause-fits
unfolding envelope_outcome_format
returns-in_ok-inner_named-in-FeeBumpInnerFailed-clause-fits c = c.in_ok-inner_named-in-FeeBumpInnerFailed.ensures.fits
