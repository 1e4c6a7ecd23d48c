-- Signed numbers.
use Rattle.std.proofs.Common.{◌≡◌, ℕ, suc, ◌+◌, ◌-◌, ◌/◌, ◌%◌, ◌^◌, ◌<◌, ◌≤◌, ◌⊎◌, inl, inr, min, ℤ, pos, negsuc, ◌-ℤ◌, ◌*ℤ◌, refl, sym, ap, ap₂, ◌∙◌, arith, cond, ltb, eqb, false, Option, Some, None}
use Rattle.std.specs.Prelude.{int_div, int_rem}
use Rattle.std.specs.Int.{Width, w8, w16, w32, w64, w128, cast_signed, cast_unsigned, bit_not, int_shr}
use Rattle.std.proofs.lemmas.Nat.{shr_le, pow_pos, le-div}
use Rattle.std.proofs.lemmas.Nat.Bits.{bit_at_above, bit_at_not, bit_at-lt}
use Rattle.std.proofs.lemmas.Bool.{cases_lt, cond_below, cond_above}
use Rattle.std.proofs.lemmas.Bool.Decides.{nat_tests}
use Rattle.std.proofs.lemmas.Int.{ints, quot-rem, to_z_pos, to_z-of_z}
use Rattle.std.proofs.Math.Nat.{pow-suc}
use lib.IntN.{*ℤ_comm}
use lib.Signed.{mag}
use mir.Val.{bits, hbits, to_z, of_z}
use Rattle.wasm_spec.specs.Integers.{bit, integer_of, signed, unsigned, ishr_s, irem_s}
use Rattle.wasm_num.proofs.SumLaws.{integer_is, high_bit}
use Rattle.wasm_num.proofs.TurnLaws.{bit_down}

pub left_over : (x y : ℤ) → x -ℤ y *ℤ int_div x y ≡ int_rem x y
left_over x y = omega (arith, ints, quot-rem x y, *ℤ_comm y (int_div x y))

half : (w : Width) → bits w ≡ suc (hbits w)
half w8 = refl
half w16 = refl
half w32 = refl
half w64 = refl
half w128 = refl

top_set : (h a : ℕ) → 2 ^ h ≤ a → a < 2 ^ suc h → bit a h ≡ 1
top_set h a l g = omega (arith, high_bit h a g, le-div 1 a (2 ^ h) (pow_pos h) (omega (arith, l)))

least : (x y : ℕ) → x ≤ y → min x y ≡ x
least x y l = omega (arith, l)

least_other : (x y : ℕ) → y ≤ x → min x y ≡ y
least_other x y l = omega (arith, l)

-- of a number that is not negative
shift_pos : (h a d : ℕ) → a < 2 ^ h → a / 2 ^ d ≡ integer_of (suc h) (λ k. bit a (min (k + d) h))
shift_pos h a d l = integer_is (suc h) (a / 2 ^ d) (λ k. bit a (min (k + d) h)) (omega (arith, l, shr_le a d, pow-suc 2 h)) (λ k g. bit_down a d k ∙ at_end k (cases_lt h (k + d)))
  where
    at_end : (k : ℕ) → (h < k + d) ⊎ (k + d ≤ h) → bit a (k + d) ≡ bit a (min (k + d) h)
    at_end k (inl m) = bit_at_above a h (k + d) l (omega (arith, m)) ∙ sym (bit_at_above a h h l (omega arith)) ∙ ap (bit a) (sym (least_other (k + d) h (omega (arith, m))))
    at_end k (inr m) = ap (bit a) (sym (least (k + d) h m))

-- of a number that is negative
shift_neg : (w : Width) (h a d : ℕ) → bits w ≡ suc h → 2 ^ h ≤ a → a < 2 ^ bits w → bit_not w (bit_not w a / 2 ^ d) ≡ integer_of (bits w) (λ k. bit a (min (k + d) h))
shift_neg w h a d e g l = integer_is (bits w) (bit_not w (bit_not w a / 2 ^ d)) (λ k. bit a (min (k + d) h)) (not_lt (bit_not w a / 2 ^ d)) (λ k m. bit_at_not w (bit_not w a / 2 ^ d) k small m ∙ at_end k m (cases_lt h (k + d)))
  where
    not_lt : (x : ℕ) → bit_not w x < 2 ^ bits w
    not_lt x = omega (arith, pow_pos (bits w))

    small : bit_not w a / 2 ^ d < 2 ^ bits w
    small = omega (arith, shr_le (bit_not w a) d, not_lt a)

    at_end : (k : ℕ) → k < bits w → (h < k + d) ⊎ (k + d ≤ h) → 1 - bit (bit_not w a / 2 ^ d) k ≡ bit a (min (k + d) h)
    at_end k m (inl o) =
        let above : bit (bit_not w a / 2 ^ d) k ≡ 0 = bit_down (bit_not w a) d k ∙ bit_at_above (bit_not w a) (bits w) (k + d) (not_lt a) (omega (arith, e, o)) in
        let set : bit a h ≡ 1 = top_set h a g (let p : 2 ^ bits w ≡ 2 ^ suc h = ap (λ x. 2 ^ x) e in omega (arith, l, p)) in
        ap (λ x. 1 - x) above ∙ sym set ∙ ap (bit a) (sym (least_other (k + d) h (omega (arith, o))))
    at_end k m (inr o) =
        let inside : bit (bit_not w a / 2 ^ d) k ≡ 1 - bit a (k + d) = bit_down (bit_not w a) d k ∙ bit_at_not w a (k + d) l (omega (arith, e, o)) in
        let back : 1 - (1 - bit a (k + d)) ≡ bit a (k + d) = omega (arith, bit_at-lt a (k + d)) in
        ap (λ x. 1 - x) inside ∙ back ∙ ap (bit a) (sym (least (k + d) h o))

shifted : (w : Width) (h a d : ℕ) → bits w ≡ suc h → h ≡ hbits w → a < 2 ^ bits w → (a < 2 ^ h) ⊎ (2 ^ h ≤ a) → cast_unsigned w (int_shr (cast_signed w a) d) ≡ integer_of (bits w) (λ k. bit a (min (k + d) h))
shifted w h a d e f l (inl g) =
    let here : cast_signed w a ≡ pos a = to_z_pos w a (let p : 2 ^ h ≡ 2 ^ hbits w = ap (λ x. 2 ^ x) f in omega (arith, g, p)) in
    ap (λ z. cast_unsigned w (int_shr z d)) here ∙ shift_pos h a d g ∙ ap (λ n. integer_of n (λ k. bit a (min (k + d) h))) (sym e)
shifted w h a d e f l (inr g) =
    let here : cast_signed w a ≡ negsuc (bit_not w a) =
    sym (cond_above a (2 ^ hbits w) (pos a) (negsuc (2 ^ bits w - suc a)) (negsuc (bit_not w a)) (let p : 2 ^ h ≡ 2 ^ hbits w = ap (λ x. 2 ^ x) f in omega (arith, g, p)) (ap negsuc (omega arith))) in
    let there : 2 ^ bits w - suc (bit_not w a / 2 ^ d) ≡ bit_not w (bit_not w a / 2 ^ d) = omega arith in
    ap (λ z. cast_unsigned w (int_shr z d)) here ∙ there ∙ shift_neg w h a d e g l

pub ishr_s_is : (w : Width) (a j : ℕ) → a < 2 ^ bits w → cast_unsigned w (int_shr (cast_signed w a) (j % bits w)) ≡ ishr_s (bits w) a j
ishr_s_is w a j l =
    let top : bits w - 1 ≡ hbits w = omega (arith, half w) in
    shifted w (hbits w) a (j % bits w) (half w) refl l (cases_lt a (2 ^ hbits w)) ∙ ap (λ h. integer_of (bits w) (λ k. bit a (min (k + j % bits w) h))) (sym top)

signed_from : (w : Width) (h i : ℕ) → bits w ≡ suc h → h ≡ hbits w → i < 2 ^ bits w → (i < 2 ^ h) ⊎ (2 ^ h ≤ i) → cond (ltb i (2 ^ h)) (pos i) (pos i -ℤ pos (2 ^ bits w)) ≡ cast_signed w i
signed_from w h i e f l (inl g) =
    sym (cond_below i (2 ^ h) (pos i) (pos i -ℤ pos (2 ^ bits w)) g) ∙ sym (to_z_pos w i (let p : 2 ^ h ≡ 2 ^ hbits w = ap (λ x. 2 ^ x) f in omega (arith, g, p)))
signed_from w h i e f l (inr g) =
    let here : pos i -ℤ pos (2 ^ bits w) ≡ negsuc (2 ^ bits w - suc i) = omega (arith, ints, l) in
    let p : 2 ^ h ≡ 2 ^ hbits w = ap (λ x. 2 ^ x) f in
    sym (cond_above i (2 ^ h) (pos i) (pos i -ℤ pos (2 ^ bits w)) (negsuc (2 ^ bits w - suc i)) g (sym here))
    ∙ cond_above i (2 ^ hbits w) (pos i) (negsuc (2 ^ bits w - suc i)) (negsuc (2 ^ bits w - suc i)) (omega (arith, g, p)) refl

pub signed_is : (w : Width) (i : ℕ) → i < 2 ^ bits w → signed (bits w) i ≡ cast_signed w i
signed_is w i l =
    let top : bits w - 1 ≡ hbits w = omega (arith, half w) in
    ap (λ h. cond (ltb i (2 ^ h)) (pos i) (pos i -ℤ pos (2 ^ bits w))) top ∙ signed_from w (hbits w) i (half w) refl l (cases_lt i (2 ^ hbits w))

-- what is left of a division, by the width's own numbers
left_by : (w : Width) (i j : ℕ) → i < 2 ^ bits w → j < 2 ^ bits w → int_rem (cast_signed w i) (cast_signed w j) ≡ signed (bits w) i -ℤ signed (bits w) j *ℤ int_div (signed (bits w) i) (signed (bits w) j)
left_by w i j l g = ap₂ int_rem (sym (signed_is w i l)) (sym (signed_is w j g)) ∙ sym (left_over (signed (bits w) i) (signed (bits w) j))

not_zero : (j : ℕ) → (j ≡ 0 → ⊥) → eqb j 0 ≡ false
not_zero j n = grind (arith, nat_tests)

pub remainder_is : (w : Width) (i j : ℕ) → i < 2 ^ bits w → j < 2 ^ bits w → (j ≡ 0 → ⊥) → Some (cast_unsigned w (int_rem (cast_signed w i) (cast_signed w j))) ≡ irem_s (bits w) i j
remainder_is w i j l g n =
    let s = signed (bits w) i in
    let t = signed (bits w) j in
    let o : Option ℕ = None in
    ap (λ z. Some (unsigned (bits w) z)) (left_by w i j l g) ∙ ap (λ b. cond b o (Some (unsigned (bits w) (s -ℤ t *ℤ int_div s t)))) (sym (not_zero j n))

-- the same from what the calls give
pub remainder_by : (w : Width) (i j r : ℕ) (x y q : ℤ) → i < 2 ^ bits w → j < 2 ^ bits w → (j ≡ 0 → ⊥) → mag x < 2 ^ hbits w → mag y < 2 ^ hbits w → mag q < 2 ^ hbits w
    → x ≡ cast_signed w i → y ≡ cast_signed w j → q ≡ int_rem (to_z w (of_z w x)) (to_z w (of_z w y)) → r ≡ of_z w (to_z w (of_z w q)) → Some r ≡ irem_s (bits w) i j
remainder_by w i j r x y q l g n fx fy fq ex ey eq er =
    let same = (λ (z : ℤ) (f : mag z < 2 ^ hbits w). to_z-of_z w z (record { sfits = f })) in
    let rest : q ≡ int_rem (cast_signed w i) (cast_signed w j) = eq ∙ ap₂ int_rem (same x fx ∙ ex) (same y fy ∙ ey) in
    ap Some (er ∙ ap (of_z w) (same q fq) ∙ ap (of_z w) rest) ∙ remainder_is w i j l g n
