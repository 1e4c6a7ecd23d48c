-- Lists that are walked through.
use Rattle.std.proofs.Common.{◌≡◌, ℕ, zero, suc, ◌+◌, ◌-◌, ◌<◌, Bool, true, false, List, [], ◌∷◌, length, drop, get_or, refl, ap, ◌∙◌, arith}
use Rattle.std.specs.Prelude.{◌&&◌, replicate}
use Rattle.std.proofs.Math.Seq.{drop-cons}
use Rattle.wasm_spec.specs.declared.types.ValueType.{ValueType}
use Rattle.wasm_spec.specs.declared.types.ValueType.TheVariants.{I64}
use Rattle.wasm_spec.specs.Meaning.{same_type, same_types}

-- types that are to be so many words

and_false : (b : Bool) → (b && false) ≡ false
and_false true = refl
and_false false = refl

pub words_differ : (ts : List ValueType) (n : ℕ) → (length ts ≡ n → ⊥) → same_types ts (replicate n I64) ≡ false
words_differ [] zero h = absurd (h refl)
words_differ [] (suc n) h = refl
words_differ (t ∷ ts) zero h = refl
words_differ (t ∷ ts) (suc n) h = ap (λ b. same_type t I64 && b) (words_differ ts n (λ e. h (ap suc e))) ∙ and_false (same_type t I64)

pub words_at : (ts : List ValueType) (i j n : ℕ) (d : ValueType) → i < length ts → length ts ≡ n → j ≡ i + 1 → same_types (drop i ts) (replicate (n - i) I64) ≡ (same_type (get_or ts i d) I64 && same_types (drop j ts) (replicate (n - j) I64))
words_at ts i j n d h e k =
    let q : n - i ≡ suc (n - j) = omega arith in
    let s : suc i ≡ j = omega arith in
    ap (λ us. same_types us (replicate (n - i) I64)) (drop-cons ts i d h) ∙ ap (λ m. same_types (get_or ts i d ∷ drop (suc i) ts) (replicate m I64)) q
    ∙ ap (λ m. same_type (get_or ts i d) I64 && same_types (drop m ts) (replicate (n - j) I64)) s
