use Rattle.std.proofs.Common.{sym, subst}
use Rattle.tx_xdr.specs.Ext.{ext_format}
use Rattle.tx_xdr.specs.declared.transaction.Transaction.{Transaction}
use Rattle.why_top.proofs.Fitting.{ext_fits}
use Rattle.why_top.proofs.counted.archived_of.Goals as goal

pub archived_by-requires : goal.archived_by-requires
archived_by-requires g c =
    subst (λ (tx : Transaction). ext_format.fits tx.ext) (sym c.transaction.ensures) (ext_fits c.args.envelope.now c.requires.envelope)
