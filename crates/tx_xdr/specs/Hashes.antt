-- The hashes of transactions and envelopes (XDR file Stellar-transaction, `TransactionSignaturePayload`; CAP-0015), each a
-- SHA-256 (FIPS 180-4). Signatures are not hashed.
use Rattle.std.specs.Prelude.{ℕ, List, ◌++◌}
use Rattle.sha2.specs.Sha256.{sha256}
use Rattle.xdr_spec.specs.Format.{number32}
use Rattle.value_types.specs.Hash.{hash_of, hash_format}
use Rattle.value_types.specs.declared.hash.Hash.{Hash}
use Rattle.tx_xdr.specs.Transaction.{transaction_format}
use Rattle.tx_xdr.specs.Envelope.{fee_bump_format}
use Rattle.tx_xdr.specs.declared.transaction.Transaction.{Transaction}
use Rattle.tx_xdr.specs.declared.envelope.FeeBump.{FeeBump}
use Rattle.tx_xdr.specs.declared.envelope.Envelope.{Envelope}
use Rattle.tx_xdr.specs.declared.envelope.Envelope.TheVariants as envelopes

-- of a transaction: the network's id, the number 2 (ENVELOPE_TYPE_TX) and the transaction
abbrev pub signature_payload : Hash → Transaction → List ℕ
signature_payload network tx = hash_format.spell network ++ (number32.spell 2 ++ transaction_format.spell tx)

abbrev pub transaction_hash : Hash → Transaction → Hash
transaction_hash network tx = hash_of (sha256 (signature_payload network tx))

-- of a fee bump: the network's id, the number 5 (ENVELOPE_TYPE_TX_FEE_BUMP) and the fee bump
abbrev pub fee_bump_payload : Hash → FeeBump → List ℕ
fee_bump_payload network fee_bump = hash_format.spell network ++ (number32.spell 5 ++ fee_bump_format.spell fee_bump)

abbrev pub fee_bump_hash : Hash → FeeBump → Hash
fee_bump_hash network fee_bump = hash_of (sha256 (fee_bump_payload network fee_bump))

-- of an envelope
abbrev pub envelope_hash : Hash → Envelope → Hash
envelope_hash network (envelopes.Transaction signed) = transaction_hash network signed.tx
envelope_hash network (envelopes.FeeBump signed) = fee_bump_hash network signed.fee_bump
