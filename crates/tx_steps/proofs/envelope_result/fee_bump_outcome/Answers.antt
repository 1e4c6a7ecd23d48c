use Rattle.std.proofs.Common.{pos, arith}
use Rattle.tx_results.specs.declared.results.InnerTransactionResultPair.{InnerTransactionResultPair}
use Rattle.tx_results.proofs.Lemmas.{inner_failed_fits, inner_pair_fits, inner_success_fits}
use Rattle.tx_steps.proofs.envelope_result.fee_bump_outcome.Goals as goal

pub returns-then-succeeded-clause-fits : goal.returns-then-succeeded-clause-fits
returns-then-succeeded-clause-fits c =
    let inner : InnerTransactionResultPair = record { hash = c.args.hash; result = record { fee_charged = pos 0; outcome = c.args.outcome } } in
    inner_success_fits inner (inner_pair_fits inner c.requires.hash (omega arith) c.requires.outcome)

pub returns-else-succeeded-clause-fits : goal.returns-else-succeeded-clause-fits
returns-else-succeeded-clause-fits c =
    let inner : InnerTransactionResultPair = record { hash = c.args.hash; result = record { fee_charged = pos 0; outcome = c.args.outcome } } in
    inner_failed_fits inner (inner_pair_fits inner c.requires.hash (omega arith) c.requires.outcome)
