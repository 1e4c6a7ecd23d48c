use Rattle.std.proofs.Common.{w64}
use Rattle.std.proofs.lemmas.Int.{to_z-of_z}
use Rattle.spec_apply.proofs.Names.{pair_again, pair_fee, pair_outcome}
use Rattle.spec_apply.proofs.naming.named.Goals as goal

pub outcome_named-requires-clause-outcome : goal.outcome_named-requires-clause-outcome
outcome_named-requires-clause-outcome c = pair_outcome c.args.pair c.requires.fits

pub returns-clause-fits : goal.returns-clause-fits
returns-clause-fits c =
    let pair = c.args.pair in
    pair_again pair c.in_ok-hash.hash _ c.in_ok-outcome.outcome (to_z-of_z w64 pair.result.fee_charged (pair_fee pair c.requires.fits))
    c.requires.fits c.in_ok-hash.ensures.fits c.in_ok-outcome.ensures.fits
