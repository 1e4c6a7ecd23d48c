-- Counts of bits.
use Rattle.std.proofs.Common.{◌≡◌, ℕ, zero, suc, ◌+◌, ◌-◌, ◌*◌, ◌/◌, ◌%◌, ◌^◌, ◌<◌, ◌≤◌, ◌⊎◌, inl, inr, Bool, true, false, eqb, cond, refl, sym, ap, ◌∙◌, arith}
use Rattle.std.specs.Prelude.{◌==◌, count_ones}
use Rattle.std.specs.Int.{Width, trailing_zeros}
use Rattle.std.specs.Int.Count.{count_leading_zeros, count_trailing_zeros, trailing_of_zero, ones, ones_step}
use Rattle.std.proofs.lemmas.Nat.{shr_split, mod_below, pow_pos, leading_length, ones_cat, le-div}
use Rattle.std.proofs.lemmas.Nat.Bits.{bit_at-trailing_zeros, bit_at-zero, same_from_bits_below}
use Rattle.std.proofs.lemmas.Bool.Decides.{nat_tests}
use Rattle.std.proofs.lemmas.Bool.{cases_lt}
use Rattle.std.proofs.Math.Nat.{div-eq_of_lt, pow-suc}
use lib.Pow.{pow_mono}
use mir.Val.{bits}
use Rattle.wasm_spec.specs.Integers.{bit, sum_below, greatest, iclz, ictz, ipopcnt}
use Rattle.wasm_num.proofs.SumLaws.{high_bit, small_bit, low_bits, sum_same}

-- what passes and is followed by nothing that passes is the greatest
greatest_at : (n r : ℕ) (passes : ℕ → Bool) (b : Bool) → passes (suc n) ≡ b → r ≤ suc n → passes r ≡ true → ((k : ℕ) → r < k → k ≤ suc n → passes k ≡ false)
    → (r ≤ n → greatest n passes ≡ r) → cond b (suc n) (greatest n passes) ≡ r
greatest_at n r passes true e le holds none below = at_end (cases_lt n r)
  where
    at_end : (n < r) ⊎ (r ≤ n) → suc n ≡ r
    at_end (inr l) = let f : false ≡ true = sym (none (suc n) (omega (arith, l)) (omega arith)) ∙ e in cc
    at_end (inl g) = omega (arith, g, le)
greatest_at n r passes false e le holds none below = at_end (cases_lt n r)
  where
    at_end : (n < r) ⊎ (r ≤ n) → greatest n passes ≡ r
    at_end (inr l) = below l
    at_end (inl g) = let same : r ≡ suc n = omega (arith, g, le) in let f : false ≡ true = sym e ∙ ap passes (sym same) ∙ holds in cc

pub greatest_is : (n r : ℕ) (passes : ℕ → Bool) → r ≤ n → passes r ≡ true → ((k : ℕ) → r < k → k ≤ n → passes k ≡ false) → greatest n passes ≡ r
unfolding greatest
greatest_is zero r passes le holds none = omega (arith, le)
greatest_is (suc n) r passes le holds none =
    greatest_at n r passes (passes (suc n)) refl le holds none (λ l. greatest_is n r passes l holds (λ k g m. none k g (omega (arith, m))))

one_bit : (x : ℕ) → x < 2 → ones x ≡ x
unfolding ones
one_bit x h = let half : x / 2 ≡ 0 = omega arith in let none : ones 0 ≡ 0 = refl in omega (arith, ones_step x, ap ones half, none)

ipopcnt_is' : (n a : ℕ) → a < 2 ^ n → ones a ≡ sum_below n (bit a)
unfolding sum_below ones
ipopcnt_is' zero a h = let e : a ≡ 0 = omega arith in ap ones e
ipopcnt_is' (suc n) a h =
    let low = ipopcnt_is' n (a % 2 ^ n) (mod_below a (2 ^ n) (pow_pos n)) ∙ sum_same n (bit (a % 2 ^ n)) (bit a) (λ k l. low_bits n a k l) in
    let high = one_bit (a / 2 ^ n) (high_bit n a h) ∙ sym (small_bit (a / 2 ^ n) (high_bit n a h)) in
    omega (arith, ap ones (sym (shr_split a n)), ones_cat n (a / 2 ^ n) (a % 2 ^ n) (mod_below a (2 ^ n) (pow_pos n)), low, high)

pub ipopcnt_is : (n a : ℕ) → a < 2 ^ n → count_ones a ≡ ipopcnt n a
ipopcnt_is n a h = ipopcnt_is' n a h

zero_test : (x : ℕ) → x ≡ 0 → eqb x 0 ≡ true
zero_test x e = grind (arith, nat_tests)

not_zero_test : (x : ℕ) → 0 < x → eqb x 0 ≡ false
not_zero_test x e = grind (arith, nat_tests)

top_below : (a m j : ℕ) → 2 ^ m ≤ 2 * a + 1 → j < m → 2 ^ j ≤ a
top_below a zero j h l = absurd (omega (arith, l))
top_below a (suc m) j h l = let e : 2 ^ j ≤ 2 ^ m = pow_mono (omega (arith, l)) in omega (arith, h, pow-suc 2 m, e)

pub iclz_is : (n a : ℕ) → a < 2 ^ n → count_leading_zeros n a ≡ iclz n a
iclz_is n a h = iclz_from (leading_length n a h)
  where
    iclz_from : (m : ℕ) × (count_leading_zeros n a + m ≡ n) × (a < 2 ^ m) × (2 ^ m ≤ 2 * a + 1) → count_leading_zeros n a ≡ iclz n a
    iclz_from (m, e, below, above) =
        let r = count_leading_zeros n a in
        let same : n - r ≡ m = omega (arith, e) in
        sym (greatest_is n r (λ k. a / 2 ^ (n - k) == 0) (omega (arith, e))
        (zero_test (a / 2 ^ (n - r)) (ap (λ k. a / 2 ^ k) same ∙ div-eq_of_lt below))
        (λ k g l. not_zero_test (a / 2 ^ (n - k)) (le-div 1 a (2 ^ (n - k)) (pow_pos (n - k)) (omega (arith, top_below a m (n - k) above (omega (arith, e, g, l)))))))

ictz_zero : (n : ℕ) → count_trailing_zeros n 0 ≡ ictz n 0
ictz_zero n = trailing_of_zero n ∙ sym (greatest_is n n (λ k. 0 % 2 ^ k == 0) (omega arith) (zero_test (0 % 2 ^ n) (omega arith)) (λ k g l. absurd (omega (arith, g, l))))

low_zero : (a t : ℕ) → ((i : ℕ) → i < t → bit a i ≡ 0) → a % 2 ^ t ≡ 0
low_zero a t none = same_from_bits_below t (a % 2 ^ t) 0 (mod_below a (2 ^ t) (pow_pos t)) (pow_pos t) (λ i l. low_bits t a i l ∙ none i l ∙ sym (bit_at-zero i))

low_not_zero : (a t k : ℕ) → bit a t ≡ 1 → t < k → 0 < a % 2 ^ k
low_not_zero a t k e l = at_end (cases_lt 0 (a % 2 ^ k))
  where
    at_end : (0 < a % 2 ^ k) ⊎ (a % 2 ^ k ≤ 0) → 0 < a % 2 ^ k
    at_end (inl h) = h
    at_end (inr h) =
        let none : a % 2 ^ k ≡ 0 = omega (arith, h) in
        absurd (omega (arith, sym (bit_at-zero t) ∙ ap (λ x. bit x t) (sym none) ∙ low_bits k a t l ∙ e))

pub ictz_is : (w : Width) (a : ℕ) → a < 2 ^ bits w → trailing_zeros w a ≡ ictz (bits w) a
ictz_is w zero h = ictz_zero (bits w)
ictz_is w (suc n) h = ictz_from (bit_at-trailing_zeros w (suc n) (omega arith) h)
  where
    ictz_from : (trailing_zeros w (suc n) < bits w) × (bit (suc n) (trailing_zeros w (suc n)) ≡ 1) × ((i : ℕ) → i < trailing_zeros w (suc n) → bit (suc n) i ≡ 0) → trailing_zeros w (suc n) ≡ ictz (bits w) (suc n)
    ictz_from (within, set, none) =
        let t = trailing_zeros w (suc n) in
        sym (greatest_is (bits w) t (λ k. suc n % 2 ^ k == 0) (omega (arith, within)) (zero_test (suc n % 2 ^ t) (low_zero (suc n) t none))
        (λ k g l. not_zero_test (suc n % 2 ^ k) (low_not_zero (suc n) t k set g)))
