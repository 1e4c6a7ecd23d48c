-- What bytes are decoded as, of what they spell and of where they are refused.
use Rattle.std.proofs.Common.{◌≡◌, ℕ, List, Result, Ok, Err, refl, ap₂}
use Rattle.xdr_spec.specs.Decoded.{decoded}
use Rattle.xdr_spec.specs.Format.{Format, IsBytes}
use Rattle.xdr_spec.specs.Laws.{IsFormat}
use Rattle.xdr_spec.specs.Refusal.{Refuses}
use Rattle.xdr_spec.specs.declared.Why.{Why}
use Rattle.xdr_spec.specs.declared.XdrErr.{XdrErr}
use Rattle.xdr_core.specs.Reads.{IsRefusal}
use Rattle.xdr_core.specs.declared.error.ReadXdr.{ReadXdr}
use Rattle.xdr_core.specs.declared.error.ReadXdr.TheVariants as read_errors
use Rattle.tx_xdr.specs.Envelope.{envelope_lawful, envelopes_format}
use Rattle.command_io.specs.Inputs.{as_spelled, unread}
use Rattle.command_io.specs.Steps.{Gives}
use Rattle.xdr_spec.proofs.Lemmas.{decoded_refuses, decoded_spells, list_lawful, not_both, one_refusal}

xdr_err : ℕ → Why → XdrErr
xdr_err at why = record { at = at; why = why }

by_outcome : {V : Type 0} (F : Format V) (lawful : IsFormat F) (bytes : List ℕ) (e : XdrErr) (r : Result V XdrErr) → IsBytes bytes → Refuses F bytes e.at e.why → decoded F bytes ≡ r → r ≡ Err e
unfolding xdr_err
by_outcome F lawful bytes e (Ok v) fit refuses is = absurd (not_both F lawful bytes v e.at e.why (decoded_spells F lawful bytes fit v is) refuses)
by_outcome F lawful bytes e (Err d) fit refuses is =
    let same = one_refusal F lawful bytes d.at e.at d.why e.why (decoded_refuses F lawful bytes fit d is) refuses in
    let equal : d ≡ e = ap₂ xdr_err same.0 same.1 in
    cc

-- bytes that are refused are decoded as that refusal
pub refuses_decoded : {V : Type 0} (F : Format V) (lawful : IsFormat F) (bytes : List ℕ) (e : XdrErr) → IsBytes bytes → Refuses F bytes e.at e.why → decoded F bytes ≡ Err e
refuses_decoded F lawful bytes e fit refuses = by_outcome F lawful bytes e (decoded F bytes) fit refuses refl

-- ---- an error of reading is the status that is due

pub unread_due : {V : Type 0} (F : Format V) (lawful : IsFormat F) (bytes : List ℕ) (e : ReadXdr) → IsBytes bytes → IsRefusal F bytes e → Gives {X = V} {Y = V} (λ v. v) (Err (unread e)) (as_spelled (decoded F bytes))
unread_due F lawful bytes (read_errors.Bad e) fit refuses = rw (refuses_decoded F lawful bytes e fit refuses) refl
unread_due F lawful bytes read_errors.NoMemory fit refuses = tt
unread_due F lawful bytes read_errors.Stopped fit refuses = tt

-- ---- lists of envelopes

pub envelopes_lawful : IsFormat envelopes_format
envelopes_lawful = list_lawful 4294967295 _ envelope_lawful
