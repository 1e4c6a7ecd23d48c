-- Bytes with their padding, read by places.
use Rattle.std.proofs.Common.{◌≡◌, ℕ, zero, suc, ◌+◌, ◌-◌, ◌*◌, ◌/◌, ◌<◌, ◌≤◌, Bool, true, false, not, List, [], ◌∷◌, length, take, drop, Ok, Err, refl, sym, ap, ◌∙◌, arith}
use Rattle.std.specs.Str.{bytes_eq}
use Rattle.std.proofs.lemmas.List.{length-drop, drop-drop}
use Rattle.xdr_spec.specs.declared.Why.TheVariants.{Padding}
use Rattle.xdr_spec.specs.Format.{input, refusal, pad, zeros, fixed_opaque_at}
use Rattle.xdr_spec.proofs.Lemmas.{bad_at, ok_at}
use Rattle.xdr_core.specs.Reads.{from}

pub zeros_are : (k : ℕ) → k < 4 → take k (0 ∷ 0 ∷ 0 ∷ 0 ∷ []) ≡ zeros k
zeros_are zero h = refl
zeros_are (suc zero) h = refl
zeros_are (suc (suc zero)) h = refl
zeros_are (suc (suc (suc zero))) h = refl
zeros_are (suc (suc (suc (suc k)))) h = absurd (omega arith)

pub tested : (b c : Bool) → b ≡ not c → c ≡ not b
tested true true e = e
tested true false e = refl
tested false true e = refl
tested false false e = e

module _ (n place fill : ℕ) (bytes back : List ℕ) (fill-is : fill ≡ pad n) (back-is : back ≡ drop n (drop place bytes)) (left : n + fill ≤ length bytes - place) where
  long : n + pad n ≤ length (drop place bytes)
  long = omega (arith, length-drop place bytes)

  judged : (b : Bool) → b ≡ not (bytes_eq (take fill back) (take fill (0 ∷ 0 ∷ 0 ∷ 0 ∷ []))) → bytes_eq (take (pad n) (drop n (drop place bytes))) (zeros (pad n)) ≡ not b
  judged b e =
      let few : pad n < 4 = omega arith in
      ap (λ (xs : List ℕ). bytes_eq (take (pad n) xs) (zeros (pad n))) (sym back-is)
      ∙ ap (λ (ys : List ℕ). bytes_eq (take (pad n) back) ys) (sym (zeros_are (pad n) few))
      ∙ ap (λ (k : ℕ). bytes_eq (take k back) (take k (0 ∷ 0 ∷ 0 ∷ 0 ∷ []))) (sym fill-is)
      ∙ tested b _ e

  pub refused : true ≡ not (bytes_eq (take fill back) (take fill (0 ∷ 0 ∷ 0 ∷ 0 ∷ []))) → fixed_opaque_at n (from bytes place) ≡ Err (refusal (place + n / 4 * 4) Padding)
  refused e = bad_at n place (drop place bytes) long (judged true e) ∙ ap (λ (k : ℕ). Err (refusal k Padding)) (omega arith)

  pub taken : false ≡ not (bytes_eq (take fill back) (take fill (0 ∷ 0 ∷ 0 ∷ 0 ∷ []))) → fixed_opaque_at n (from bytes place) ≡ Ok (take n (drop place bytes), from bytes (place + (n + pad n)))
  taken e = ok_at n place (drop place bytes) long (judged false e) ∙ ap (λ (xs : List ℕ). Ok (take n (drop place bytes), input (place + (n + pad n)) xs)) (drop-drop (n + pad n) place bytes)
