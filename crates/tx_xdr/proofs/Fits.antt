-- The transaction in an envelope that fits its format fits the format of transactions.
use Rattle.tx_xdr.specs.Transaction.{transaction_format}
use Rattle.tx_xdr.specs.Envelope.{signed_format, fee_bump_format, signed_fee_bump_format, envelope_format, transaction_in}
use Rattle.tx_xdr.specs.declared.envelope.Envelope.{Envelope}
use Rattle.tx_xdr.specs.declared.envelope.Envelope.TheVariants as envelopes

pub transaction_in_fits : (envelope : Envelope) → envelope_format.fits envelope → transaction_format.fits (transaction_in envelope)
unfolding envelope_format signed_format signed_fee_bump_format fee_bump_format
transaction_in_fits (envelopes.Transaction signed) h = h.0
transaction_in_fits (envelopes.FeeBump signed) h = h.0.1.1.0.0
