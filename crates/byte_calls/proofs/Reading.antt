-- What bytes are decoded as, of what they spell and of where they are refused.
use Rattle.std.proofs.Common.{◌≡◌, ℕ, List, Result, Ok, Err, refl, ap₂}
use Rattle.std.specs.Prelude.{IfOk, IfErr}
use Rattle.xdr_spec.specs.Decoded.{decoded}
use Rattle.xdr_spec.specs.Format.{IsBytes, opaque}
use Rattle.xdr_spec.specs.Refusal.{Spells, Refuses}
use Rattle.xdr_spec.specs.declared.Why.{Why}
use Rattle.xdr_spec.specs.declared.XdrErr.{XdrErr}
use Rattle.xdr_spec.proofs.Lemmas.{decoded_refuses, decoded_spells, not_both, one_refusal, spells_decoded}
use Rattle.xdr_core.specs.Reads.{IsRefusal}
use Rattle.xdr_core.specs.declared.error.ReadXdr.{ReadXdr}
use Rattle.xdr_core.specs.declared.error.ReadXdr.TheVariants.{Bad, NoMemory, Stopped}
use Rattle.value_types.specs.Datum.{bytes}
use Rattle.value_types.specs.Formats.{scval_format}
use Rattle.value_types.specs.Views.{datum}
use Rattle.value_types.specs.declared.value.ScVal.{ScVal}
use Rattle.value_types.proofs.Lemmas.{scval_lawful}
use Rattle.value_xdr.specs.Bytes.{IsBounded}
use Rattle.host_spec.specs.Hosted.{IsHosted}
use Rattle.host_frame.proofs.Lemmas.{spelled_bounded}
use Rattle.byte_calls.specs.Decodes.{Decodes}

hosted_are_bytes : (x : List ℕ) → IsHosted (bytes x) → IsBytes x
unfolding opaque
hosted_are_bytes x h = h.made.bounded.2

xdr_err : ℕ → Why → XdrErr
xdr_err at why = record { at = at; why = why }

by_outcome : (x : List ℕ) (e : XdrErr) (r : Result ScVal XdrErr) → IsBytes x → Refuses scval_format x e.at e.why → decoded scval_format x ≡ r → r ≡ Err e
unfolding xdr_err
by_outcome x e (Ok v) fit refuses is = absurd (not_both scval_format scval_lawful x v e.at e.why (decoded_spells scval_format scval_lawful x fit v is) refuses)
by_outcome x e (Err d) fit refuses is =
    let same = one_refusal scval_format scval_lawful x d.at e.at d.why e.why (decoded_refuses scval_format scval_lawful x fit d is) refuses in
    let equal : d ≡ e = ap₂ xdr_err same.0 same.1 in
    cc

pub decodes : (x : List ℕ) (r : Result ScVal ReadXdr) → IsHosted (bytes x) → IfOk r (λ v. Spells scval_format v x) → IfErr r (λ e. IsRefusal scval_format x e) → Decodes r (decoded scval_format x)
decodes x (Ok v) h s f = spells_decoded scval_format scval_lawful v x s
decodes x (Err (Bad e)) h s f = by_outcome x e (decoded scval_format x) (hosted_are_bytes x h) f refl
decodes x (Err NoMemory) h s f = tt
decodes x (Err Stopped) h s f = f

pub bounded : (x : List ℕ) (r : Result ScVal ReadXdr) → IfOk r (λ v. Spells scval_format v x) → IfOk r (λ v. IsBounded (datum v))
bounded x (Ok v) s = spelled_bounded v s.fits
bounded x (Err e) s = s
