use Rattle.std.proofs.Common.{pos, arith}
use Rattle.tx_results.specs.declared.results.TransactionResultPair.{TransactionResultPair}
use Rattle.tx_results.proofs.Lemmas.{pair_fits}
use Rattle.tx_steps.proofs.envelope_result.result_pair.Goals as goal

pub returns-clause-fits : goal.returns-clause-fits
returns-clause-fits c =
    let pair : TransactionResultPair = record { hash = c.in_ok-hash.hash; result = record { fee_charged = pos 0; outcome = c.in_ok-outcome.outcome } } in
    pair_fits pair c.in_ok-hash.ensures.fits (omega arith) c.in_ok-outcome.ensures.fits
