-- Envelopes (XDR file Stellar-transaction, `TransactionEnvelope` and what it holds): a transaction with its signatures, or a fee
-- bump, by which another account pays the fee of a signed transaction (CAP-0015).
use Rattle.std.specs.Prelude.{◌≡◌, ◌<◌, ◌^◌, ℕ, ℤ, List, [], ◌∷◌, Option, Some, None}
use Rattle.std.proofs.Common.{refl, arith}
use Rattle.xdr_spec.specs.Format.{Format, via, pair, list, arm, nothing, signed64, union, enumeration, find_kind}
use Rattle.xdr_spec.specs.Laws.{IsFormat}
use Rattle.xdr_spec.proofs.Lemmas.{arm_kind, arm_lawful, enumeration_lawful, find_kind-back, list_lawful, nothing_lawful}
use Rattle.xdr_spec.proofs.Lemmas.{pair_lawful, signed64_lawful, union_lawful, via_lawful}
use Rattle.value_types.specs.Headed.{headed, headed_lawful}
use Rattle.tx_parts.specs.MuxedAccount.{account_format, account_lawful}
use Rattle.tx_parts.specs.Signature.{signature_format, signature_lawful}
use Rattle.tx_parts.specs.declared.account.MuxedAccount.{MuxedAccount}
use Rattle.tx_parts.specs.declared.signature.DecoratedSignature.{DecoratedSignature}
use Rattle.tx_xdr.specs.Transaction.{transaction_format, transaction_lawful}
use Rattle.tx_xdr.specs.declared.transaction.Transaction.{Transaction}
use Rattle.tx_xdr.specs.declared.envelope.SignedTransaction.{SignedTransaction}
use Rattle.tx_xdr.specs.declared.envelope.FeeBump.{FeeBump}
use Rattle.tx_xdr.specs.declared.envelope.SignedFeeBump.{SignedFeeBump}
use Rattle.tx_xdr.specs.declared.envelope.EnvelopeType.{EnvelopeType}
use Rattle.tx_xdr.specs.declared.envelope.EnvelopeType.TheVariants as types
use Rattle.tx_xdr.specs.declared.envelope.Envelope.{Envelope}
use Rattle.tx_xdr.specs.declared.envelope.Envelope.TheVariants as envelopes

-- ---- a transaction and at most 20 signatures

abbrev pub signed_of : Transaction × List DecoratedSignature → SignedTransaction
signed_of f = record { tx = f.0; signatures = f.1 }

abbrev pub signed_fields : SignedTransaction → Transaction × List DecoratedSignature
signed_fields signed = (signed.tx, signed.signatures)

unfoldable pub signed_format : Format SignedTransaction
signed_format = via signed_of signed_fields (pair transaction_format (list 20 signature_format))

pub signed_lawful : IsFormat signed_format
unfolding signed_format
signed_lawful = via_lawful signed_of signed_fields _ (λ f. refl) (λ signed. refl)
    (pair_lawful _ _ transaction_lawful (list_lawful 20 _ signature_lawful))

-- ---- a fee bump: who pays, the fee, the number 2 (ENVELOPE_TYPE_TX) and a signed transaction, and ext 0

abbrev pub FeeBumpFields : Type 0
FeeBumpFields = MuxedAccount × (ℤ × (SignedTransaction × Unit {0}))

abbrev pub fee_bump_of : FeeBumpFields → FeeBump
fee_bump_of f = record { fee_source = f.0; fee = f.1.0; inner = f.1.1.0 }

abbrev pub fee_bump_fields : FeeBump → FeeBumpFields
fee_bump_fields fee_bump = (fee_bump.fee_source, (fee_bump.fee, (fee_bump.inner, tt)))

unfoldable pub fee_bump_format : Format FeeBump
fee_bump_format = via fee_bump_of fee_bump_fields
    (pair account_format (pair signed64 (pair (headed 2 signed_format) (headed 0 (nothing tt)))))

pub fee_bump_lawful : IsFormat fee_bump_format
unfolding fee_bump_format
fee_bump_lawful = via_lawful fee_bump_of fee_bump_fields _ (λ f. refl) (λ fee_bump. refl)
    (pair_lawful _ _ account_lawful (pair_lawful _ _ signed64_lawful
    (pair_lawful _ _ (headed_lawful 2 _ (omega arith) signed_lawful) (headed_lawful 0 _ (omega arith) (nothing_lawful tt)))))

-- ---- a fee bump and at most 20 signatures

abbrev pub signed_fee_bump_of : FeeBump × List DecoratedSignature → SignedFeeBump
signed_fee_bump_of f = record { fee_bump = f.0; signatures = f.1 }

abbrev pub signed_fee_bump_fields : SignedFeeBump → FeeBump × List DecoratedSignature
signed_fee_bump_fields signed = (signed.fee_bump, signed.signatures)

unfoldable pub signed_fee_bump_format : Format SignedFeeBump
signed_fee_bump_format = via signed_fee_bump_of signed_fee_bump_fields (pair fee_bump_format (list 20 signature_format))

pub signed_fee_bump_lawful : IsFormat signed_fee_bump_format
unfolding signed_fee_bump_format
signed_fee_bump_lawful = via_lawful signed_fee_bump_of signed_fee_bump_fields _ (λ f. refl) (λ signed. refl)
    (pair_lawful _ _ fee_bump_lawful (list_lawful 20 _ signature_lawful))

-- ---- the types

abbrev pub number : EnvelopeType → ℕ
number types.Transaction = 2
number types.FeeBump = 5

abbrev pub all : List EnvelopeType
all = types.Transaction ∷ types.FeeBump ∷ []

abbrev pub type_of : ℕ → Option EnvelopeType
type_of = find_kind number all

unfoldable pub type_format : Format EnvelopeType
type_format = enumeration number type_of

small : (k : EnvelopeType) → number k < 2 ^ 32
small types.Transaction = omega arith
small types.FeeBump = omega arith

there : (k : EnvelopeType) → type_of (number k) ≡ Some k
there types.Transaction = refl
there types.FeeBump = refl

pub type_lawful : IsFormat type_format
unfolding type_format
type_lawful = enumeration_lawful number type_of types.Transaction small there (find_kind-back number all)

-- ---- envelopes

abbrev pub kind : Envelope → EnvelopeType
kind (envelopes.Transaction signed) = types.Transaction
kind (envelopes.FeeBump signed) = types.FeeBump

abbrev pub of_transaction : SignedTransaction → Envelope
of_transaction signed = envelopes.Transaction signed

abbrev pub as_transaction : Envelope → Option SignedTransaction
as_transaction (envelopes.Transaction signed) = Some signed
as_transaction _ = None

abbrev pub of_fee_bump : SignedFeeBump → Envelope
of_fee_bump signed = envelopes.FeeBump signed

abbrev pub as_fee_bump : Envelope → Option SignedFeeBump
as_fee_bump (envelopes.FeeBump signed) = Some signed
as_fee_bump _ = None

abbrev pub arms : EnvelopeType → Format Envelope
arms types.Transaction = arm of_transaction as_transaction signed_format
arms types.FeeBump = arm of_fee_bump as_fee_bump signed_fee_bump_format

unfoldable pub envelope_format : Format Envelope
envelope_format = union number type_of kind arms

-- the transaction that runs: of a fee bump the inner one
abbrev pub transaction_in : Envelope → Transaction
transaction_in (envelopes.Transaction signed) = signed.tx
transaction_in (envelopes.FeeBump signed) = signed.fee_bump.inner.tx

back_transaction : (v : Envelope) (x : SignedTransaction) → as_transaction v ≡ Some x → of_transaction x ≡ v
back_transaction (envelopes.Transaction signed) x e = cc
back_transaction _ x e = absurd cc

back_fee_bump : (v : Envelope) (x : SignedFeeBump) → as_fee_bump v ≡ Some x → of_fee_bump x ≡ v
back_fee_bump (envelopes.FeeBump signed) x e = cc
back_fee_bump _ x e = absurd cc

arms_lawful : (k : EnvelopeType) → IsFormat (arms k)
arms_lawful types.Transaction = arm_lawful of_transaction as_transaction _ (λ x. refl) back_transaction signed_lawful
arms_lawful types.FeeBump = arm_lawful of_fee_bump as_fee_bump _ (λ x. refl) back_fee_bump signed_fee_bump_lawful

coherent : (k : EnvelopeType) (v : Envelope) → (arms k).fits v → kind v ≡ k
coherent types.Transaction v h =
    arm_kind kind types.Transaction of_transaction as_transaction signed_format (λ x. refl) back_transaction v h
coherent types.FeeBump v h =
    arm_kind kind types.FeeBump of_fee_bump as_fee_bump signed_fee_bump_format (λ x. refl) back_fee_bump v h

pub envelope_lawful : IsFormat envelope_format
unfolding envelope_format
envelope_lawful = union_lawful number type_of kind arms (record {
  some = types.Transaction;
  small = small;
  there = there;
  back = find_kind-back number all;
  bodies = arms_lawful;
  coherent = coherent;
})

-- ---- a list of envelopes

abbrev pub envelopes_format : Format (List Envelope)
envelopes_format = list 4294967295 envelope_format
