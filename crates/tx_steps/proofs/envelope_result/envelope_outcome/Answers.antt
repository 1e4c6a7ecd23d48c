use Rattle.std.proofs.Common.{sym, subst}
use Rattle.tx_xdr.specs.Transaction.{transaction_format}
use Rattle.tx_xdr.specs.declared.transaction.Transaction.{Transaction}
use Rattle.tx_xdr.proofs.Lemmas.{transaction_in_fits}
use Rattle.tx_results.proofs.Lemmas.{transaction_alone_fits}
use Rattle.tx_steps.proofs.envelope_result.envelope_outcome.Goals as goal

pub returns-in-Transaction-clause-fits : goal.returns-in-Transaction-clause-fits
returns-in-Transaction-clause-fits c = transaction_alone_fits c.args.outcome c.requires.outcome

pub tx_hash-requires : goal.tx_hash-requires
tx_hash-requires c =
    subst (λ (tx : Transaction). transaction_format.fits tx) (sym c.transaction.ensures) (transaction_in_fits c.args.envelope.now c.requires.envelope)
