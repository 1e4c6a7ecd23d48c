-- Parts of an envelope within its XDR format are within theirs, also where more bytes may be written.
use Rattle.std.proofs.Common.{List, All, arith}
use Rattle.std.proofs.lemmas.List.Elements.{All-weaker}
use Rattle.xdr_spec.specs.Format.{number32}
use Rattle.tx_xdr.specs.Ext.{ext_format}
use Rattle.tx_xdr.specs.Soroban.{footprint_format, soroban_format}
use Rattle.tx_xdr.specs.Transaction.{transaction_format}
use Rattle.tx_xdr.specs.Envelope.{signed_format, fee_bump_format, signed_fee_bump_format, envelope_format, transaction_in}
use Rattle.tx_xdr.specs.declared.transaction.SorobanData.{SorobanData}
use Rattle.tx_xdr.specs.declared.transaction.Transaction.{Transaction}
use Rattle.tx_xdr.specs.declared.transaction.TransactionExt.{TransactionExt}
use Rattle.tx_xdr.specs.declared.transaction.TransactionExt.TheVariants as exts
use Rattle.tx_xdr.specs.declared.envelope.Envelope.{Envelope}
use Rattle.tx_xdr.specs.declared.envelope.Envelope.TheVariants as envelopes
use Rattle.tx_xdr.proofs.Lemmas.{transaction_in_fits}
use Rattle.stage_runs.specs.declared.Change.{Change}
use Rattle.tx_apply.specs.Done.{CanChange}
use Rattle.declared_bytes.specs.Counted.{CanCount}
use Rattle.why_top.specs.Counted.{ext_unlimited, tx_unlimited, unlimited}

-- the footprint that a transaction declares
pub footprint_fits : (resources : SorobanData) → ext_format.fits (exts.Soroban resources) → footprint_format.fits resources.footprint
unfolding ext_format soroban_format
footprint_fits resources h = h.0

tx_ext_fits : (tx : Transaction) → transaction_format.fits tx → ext_format.fits tx.ext
unfolding transaction_format
tx_ext_fits tx h = h.1.1.1.1.1.1

pub ext_fits : (envelope : Envelope) → envelope_format.fits envelope → ext_format.fits (transaction_in envelope).ext
ext_fits envelope h = tx_ext_fits (transaction_in envelope) (transaction_in_fits envelope h)

-- ---- more bytes may be written

unlimited_ext_fits : (ext : TransactionExt) → ext_format.fits ext → ext_format.fits (ext_unlimited ext)
unfolding ext_format soroban_format number32
unlimited_ext_fits exts.None h = h
unlimited_ext_fits (exts.Soroban resources) h = (h.0, (h.1.0, (h.1.1.0, (omega arith, h.1.1.1.1))))

unlimited_tx_fits : (tx : Transaction) → transaction_format.fits tx → transaction_format.fits (tx_unlimited tx)
unfolding transaction_format
unlimited_tx_fits tx h = (h.0, (h.1.0, (h.1.1.0, (h.1.1.1.0, (h.1.1.1.1.0, (h.1.1.1.1.1.0, unlimited_ext_fits tx.ext h.1.1.1.1.1.1))))))

pub unlimited_fits : (envelope : Envelope) → envelope_format.fits envelope → envelope_format.fits (unlimited envelope)
unfolding envelope_format signed_format signed_fee_bump_format fee_bump_format
unlimited_fits (envelopes.Transaction signed) h = (unlimited_tx_fits signed.tx h.0, h.1)
unlimited_fits (envelopes.FeeBump signed) h =
    ((h.0.0, (h.0.1.0, ((unlimited_tx_fits signed.fee_bump.inner.tx h.0.1.1.0.0, h.0.1.1.0.1), h.0.1.1.1))), h.1)

-- ---- changes

pub can_count : (changes : List Change) → All CanChange changes → All CanCount changes
can_count changes h = All-weaker CanChange CanCount (λ change can. record { key = can.key; after = can.after }) changes h
