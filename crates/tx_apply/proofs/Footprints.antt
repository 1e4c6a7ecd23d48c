-- A footprint that is put into an envelope leaves it within its XDR format.
use Rattle.tx_xdr.specs.Soroban.{footprint_format, soroban_format}
use Rattle.tx_xdr.specs.Ext.{ext_format}
use Rattle.tx_xdr.specs.Transaction.{transaction_format}
use Rattle.tx_xdr.specs.Envelope.{signed_format, fee_bump_format, signed_fee_bump_format, envelope_format}
use Rattle.tx_xdr.specs.declared.transaction.Footprint.{Footprint}
use Rattle.tx_xdr.specs.declared.transaction.Transaction.{Transaction}
use Rattle.tx_xdr.specs.declared.transaction.TransactionExt.{TransactionExt}
use Rattle.tx_xdr.specs.declared.transaction.TransactionExt.TheVariants as exts
use Rattle.tx_xdr.specs.declared.envelope.Envelope.{Envelope}
use Rattle.tx_xdr.specs.declared.envelope.Envelope.TheVariants as envelopes
use Rattle.apply_spec.specs.Simulated.{ext_with, tx_with, with_footprint}

ext_fits : (footprint : Footprint) (ext : TransactionExt) → footprint_format.fits footprint → ext_format.fits ext → ext_format.fits (ext_with footprint ext)
unfolding ext_format soroban_format
ext_fits footprint exts.None f h = h
ext_fits footprint (exts.Soroban resources) f h = (f, h.1)

tx_fits : (footprint : Footprint) (tx : Transaction) → footprint_format.fits footprint → transaction_format.fits tx → transaction_format.fits (tx_with footprint tx)
unfolding transaction_format
tx_fits footprint tx f h = (h.0, (h.1.0, (h.1.1.0, (h.1.1.1.0, (h.1.1.1.1.0, (h.1.1.1.1.1.0, ext_fits footprint tx.ext f h.1.1.1.1.1.1))))))

-- an envelope with another footprint
pub envelope_fits : (footprint : Footprint) (envelope : Envelope) → footprint_format.fits footprint → envelope_format.fits envelope → envelope_format.fits (with_footprint footprint envelope)
unfolding envelope_format signed_format signed_fee_bump_format fee_bump_format
envelope_fits footprint (envelopes.Transaction signed) f h = (tx_fits footprint signed.tx f h.0, h.1)
envelope_fits footprint (envelopes.FeeBump signed) f h =
    ((h.0.0, (h.0.1.0, ((tx_fits footprint signed.fee_bump.inner.tx f h.0.1.1.0.0, h.0.1.1.0.1), h.0.1.1.1))), h.1)
