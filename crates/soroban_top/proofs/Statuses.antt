-- The status after bytes of which a value was decoded, in terms of what they spell.
use Rattle.std.proofs.Common.{◌≡◌, ◌↔◌, ℕ, List, Result, Ok, Err, refl}
use Rattle.xdr_spec.specs.Decoded.{decoded}
use Rattle.xdr_spec.specs.Format.{Format, IsBytes}
use Rattle.xdr_spec.specs.Laws.{IsFormat}
use Rattle.xdr_spec.specs.Refusal.{Refuses, Spells}
use Rattle.xdr_spec.specs.declared.Why.{Why}
use Rattle.xdr_spec.specs.declared.XdrErr.{XdrErr}
use Rattle.xdr_spec.proofs.Lemmas.{decoded_refuses, decoded_spells, spells_decoded}
use Rattle.command_io.specs.Inputs.{as_spelled}
use Rattle.command_io.specs.Steps.{◌>>=◌, status_of}
use Rattle.command_io.specs.declared.status.Status.{Status}
use Rattle.command_io.specs.declared.status.Status.TheVariants as status
use Rattle.command_io.proofs.Lemmas.{refuses_decoded}

-- the status where this was decoded
abbrev pub spelled_status : {A B : Type 0} → Result A XdrErr → (A → B) → Status
spelled_status r f = status_of (as_spelled r >>= (λ x. Ok (f x)))

malformed_is : {A B : Type 0} (r : Result A XdrErr) (rest : A → Result B Status) (at : ℕ) (why : Why) → ((x : A) → status_of (rest x) ≡ status.Malformed at why → ⊥) → status_of (as_spelled r >>= rest) ≡ status.Malformed at why
    → (e : XdrErr) × (r ≡ Err e) × (e.at ≡ at) × (e.why ≡ why)
malformed_is (Ok x) rest at why none h = absurd (none x h)
malformed_is (Err e) rest at why none h = (e, refl, cc, cc)

pub malformed_before : {A B : Type 0} (F : Format A) (lawful : IsFormat F) (bytes : List ℕ) (rest : A → Result B Status) (at : ℕ) (why : Why) → IsBytes bytes → ((x : A) → status_of (rest x) ≡ status.Malformed at why → ⊥)
    → (status_of (as_spelled (decoded F bytes) >>= rest) ≡ status.Malformed at why) ↔ Refuses F bytes at why
malformed_before F lawful bytes rest at why fit none = (
  λ h. let e = malformed_is (decoded F bytes) rest at why none h in
      let refuses : Refuses F bytes e.0.at e.0.why = decoded_refuses F lawful bytes fit e.0 e.1 in
      rw (e.2, e.3) at refuses,
  λ refuses. rw (refuses_decoded F lawful bytes (record { at = at; why = why }) fit refuses) refl,
)

pub malformed_due : {A B : Type 0} (F : Format A) (lawful : IsFormat F) (bytes : List ℕ) (f : A → B) (at : ℕ) (why : Why) → IsBytes bytes → (spelled_status (decoded F bytes) f ≡ status.Malformed at why) ↔ Refuses F bytes at why
malformed_due F lawful bytes f at why fit = malformed_before F lawful bytes (λ x. Ok (f x)) at why fit (λ x h. cc)

-- the status is that of what comes after
pub status_after : {A B : Type 0} (F : Format A) (lawful : IsFormat F) (bytes : List ℕ) (rest : A → Result B Status) (P : A → Type 0) (due : Status) → IsBytes bytes → ((e : XdrErr) → status.Malformed e.at e.why ≡ due → ⊥)
    → ((x : A) → (status_of (rest x) ≡ due) ↔ P x) → (status_of (as_spelled (decoded F bytes) >>= rest) ≡ due) ↔ ((x : A) × Spells F x bytes × P x)
status_after {A} {B} F lawful bytes rest P due fit other is = (
  λ h. by (decoded F bytes) refl h,
  λ x. rw (spells_decoded F lawful x.0 bytes x.1) ((is x.0).1 x.2),
)
  where
    by : (r : Result A XdrErr) → decoded F bytes ≡ r → status_of (as_spelled r >>= rest) ≡ due → (x : A) × Spells F x bytes × P x
    by (Ok x) e h = (x, decoded_spells F lawful bytes fit x e, (is x).0 h)
    by (Err e) g h = absurd (other e h)

done_is : {A B : Type 0} (r : Result A XdrErr) (f : A → B) → spelled_status r f ≡ status.Done → (x : A) × (r ≡ Ok x)
done_is (Ok x) f h = (x, refl)
done_is (Err e) f h = absurd cc

pub done_due : {A B : Type 0} (F : Format A) (lawful : IsFormat F) (bytes : List ℕ) (f : A → B) → IsBytes bytes → (spelled_status (decoded F bytes) f ≡ status.Done) ↔ ((x : A) × Spells F x bytes)
done_due F lawful bytes f fit = (
  λ h. let x = done_is (decoded F bytes) f h in (x.0, decoded_spells F lawful bytes fit x.0 x.1),
  λ x. rw (spells_decoded F lawful x.0 bytes x.1) refl,
)
