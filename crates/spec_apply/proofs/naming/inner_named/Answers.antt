use Rattle.std.proofs.Common.{refl, sym, subst}
use Rattle.tx_xdr.specs.Transaction.{transaction_format}
use Rattle.tx_xdr.specs.declared.transaction.Transaction.{Transaction}
use Rattle.tx_xdr.proofs.Lemmas.{transaction_in_fits}
use Rattle.spec_apply.proofs.Names.{inner_fits}
use Rattle.spec_apply.proofs.naming.inner_named.Goals as goal

pub tx_hash-requires : goal.tx_hash-requires
tx_hash-requires c =
    subst (λ (tx : Transaction). transaction_format.fits tx) (sym c.transaction.ensures) (transaction_in_fits c.args.envelope.now c.requires.envelope)

pub returns-clause-fits : goal.returns-clause-fits
returns-clause-fits c = inner_fits c.args.inner _ c.in_ok-hash.hash refl c.in_ok-hash.ensures.fits c.requires.inner
