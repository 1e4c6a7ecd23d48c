-- Shifts and rotations, as integers of their bits.
use Rattle.std.proofs.Common.{◌≡◌, ℕ, zero, suc, ◌+◌, ◌-◌, ◌*◌, ◌/◌, ◌%◌, ◌^◌, ◌<◌, ◌≤◌, ◌⊎◌, inl, inr, max, refl, sym, ap, ◌∙◌, arith}
use Rattle.std.specs.Prelude.{bit_or}
use Rattle.std.proofs.lemmas.Nat.{or_lt, or_comm, shr_le, shr-shr, mod_below, pow_pos}
use Rattle.std.proofs.lemmas.Nat.Bits.{bit_at_or, bit_at_cat_low, bit_at_cat_high, bit_at_above, bit_at-zero}
use Rattle.std.proofs.lemmas.Bool.{cases_lt}
use Rattle.std.proofs.Math.Nat.{mod-eq_of_lt, mod_self, add-mod_right}
use Rattle.wasm_spec.specs.Integers.{bit, irotl, irotr}
use Rattle.wasm_num.proofs.SumLaws.{integer_is, low_bits}

-- bits of what is moved down and up
pub bit_down : (a d k : ℕ) → bit (a / 2 ^ d) k ≡ bit a (k + d)
bit_down a d k = ap (λ x. x % 2) (shr-shr a d k ∙ ap (λ x. a / 2 ^ x) (omega arith))

pub bit_up : (n a d k : ℕ) → k < n → d ≤ k → bit ((a * 2 ^ d) % 2 ^ n) k ≡ bit a (k - d)
bit_up n a d k h l = low_bits n (a * 2 ^ d) k h ∙ ap (λ x. bit x k) (omega arith) ∙ bit_at_cat_high a d 0 k (pow_pos d) l

pub bit_up_low : (n a d k : ℕ) → k < n → k < d → bit ((a * 2 ^ d) % 2 ^ n) k ≡ 0
bit_up_low n a d k h l = low_bits n (a * 2 ^ d) k h ∙ ap (λ x. bit x k) (omega arith) ∙ bit_at_cat_low a d 0 k l ∙ bit_at-zero k

zero_max : (x y : ℕ) → x ≡ 0 → max x y ≡ y
zero_max x y e = omega (arith, e)

max_zero : (x y : ℕ) → y ≡ 0 → max x y ≡ x
max_zero x y e = omega (arith, e)

max_same : (x y : ℕ) → x ≡ y → max x y ≡ y
max_same x y e = omega (arith, e)

-- a is shifted up by u bits and down by d bits, which together are n bits, or none
turned : (n a u d k : ℕ) → a < 2 ^ n → k < n → (u + d ≡ n) ⊎ ((u ≡ 0) × (d ≡ 0))
    → bit (bit_or ((a * 2 ^ u) % 2 ^ n) (a / 2 ^ d)) k ≡ bit a ((k + d) % n)
turned n a u d k h l whole = bit_at_or ((a * 2 ^ u) % 2 ^ n) (a / 2 ^ d) k ∙ at_end whole (cases_lt k u)
  where
    down : bit (a / 2 ^ d) k ≡ bit a (k + d)
    down = bit_down a d k

    at_end : (u + d ≡ n) ⊎ ((u ≡ 0) × (d ≡ 0)) → (k < u) ⊎ (u ≤ k) → max (bit ((a * 2 ^ u) % 2 ^ n) k) (bit (a / 2 ^ d) k) ≡ bit a ((k + d) % n)
    at_end (inl e) (inl g) =
        zero_max (bit ((a * 2 ^ u) % 2 ^ n) k) (bit (a / 2 ^ d) k) (bit_up_low n a u k l g) ∙ down
        ∙ ap (bit a) (sym (mod-eq_of_lt (omega (arith, e, g))))
    at_end (inl e) (inr g) =
        let beyond : bit (a / 2 ^ d) k ≡ 0 = down ∙ bit_at_above a n (k + d) h (omega (arith, e, g)) in
        let start : (k + d) % n ≡ k - u = ap (λ x. x % n) (omega (arith, e, g)) ∙ add-mod_right (k - u) n ∙ mod-eq_of_lt (omega (arith, l)) in
        max_zero (bit ((a * 2 ^ u) % 2 ^ n) k) (bit (a / 2 ^ d) k) beyond ∙ bit_up n a u k l g ∙ ap (bit a) (sym start)
    at_end (inr e) (inl g) = absurd (omega (arith, e.0, g))
    at_end (inr e) (inr g) =
        let start : (k + d) % n ≡ k + d = mod-eq_of_lt (omega (arith, e.1, l)) in
        let up : bit ((a * 2 ^ u) % 2 ^ n) k ≡ bit (a / 2 ^ d) k = bit_up n a u k l g ∙ ap (bit a) (omega (arith, e.0, e.1)) ∙ sym down in
        max_same (bit ((a * 2 ^ u) % 2 ^ n) k) (bit (a / 2 ^ d) k) up ∙ down ∙ ap (bit a) (sym start)

-- the bits that are left
left : (n u : ℕ) → u < n → (u + (n - u) % n ≡ n) ⊎ ((u ≡ 0) × ((n - u) % n ≡ 0))
left n zero h = inr (refl, ap (λ x. x % n) (omega arith) ∙ mod_self n)
left n (suc u) h = let e : (n - suc u) % n ≡ n - suc u = mod-eq_of_lt (omega (arith, h)) in inl (omega (arith, h, e))

left_mod : (n u k : ℕ) → u < n → (k + (n - u) % n) % n ≡ (k + (n - u)) % n
left_mod n zero k h = ap (λ x. (k + x) % n) (ap (λ x. x % n) (omega arith) ∙ mod_self n) ∙ ap (λ x. x % n) (omega arith) ∙ sym (add-mod_right k n) ∙ ap (λ x. (k + x) % n) (omega arith)
left_mod n (suc u) k h = ap (λ x. (k + x) % n) (mod-eq_of_lt (omega (arith, h)))

swapped : (u d n : ℕ) → (u + d ≡ n) ⊎ ((u ≡ 0) × (d ≡ 0)) → (d + u ≡ n) ⊎ ((d ≡ 0) × (u ≡ 0))
swapped u d n (inl e) = inl (omega (arith, e))
swapped u d n (inr e) = inr (e.1, e.0)

up_lt : (n a u : ℕ) → (a * 2 ^ u) % 2 ^ n < 2 ^ n
up_lt n a u = mod_below (a * 2 ^ u) (2 ^ n) (pow_pos n)

down_lt : (n a d : ℕ) → a < 2 ^ n → a / 2 ^ d < 2 ^ n
down_lt n a d h = omega (arith, shr_le a d, h)

pub irotl_is : (n a j : ℕ) → 0 < n → a < 2 ^ n → bit_or ((a * 2 ^ (j % n)) % 2 ^ n) (a / 2 ^ ((n - j % n) % n)) ≡ irotl n a j
irotl_is n a j some h =
    let u = j % n in
    let d = (n - u) % n in
    integer_is n (bit_or ((a * 2 ^ u) % 2 ^ n) (a / 2 ^ d)) (λ k. bit a ((k + (n - u)) % n)) (or_lt n ((a * 2 ^ u) % 2 ^ n) (a / 2 ^ d) (up_lt n a u) (down_lt n a d h))
    (λ k l. turned n a u d k h l (left n u (mod_below j n some)) ∙ ap (bit a) (left_mod n u k (mod_below j n some)))

pub irotr_is : (n a j : ℕ) → 0 < n → a < 2 ^ n → bit_or (a / 2 ^ (j % n)) ((a * 2 ^ ((n - j % n) % n)) % 2 ^ n) ≡ irotr n a j
irotr_is n a j some h =
    let d = j % n in
    let u = (n - d) % n in
    or_comm (a / 2 ^ d) ((a * 2 ^ u) % 2 ^ n)
    ∙ integer_is n (bit_or ((a * 2 ^ u) % 2 ^ n) (a / 2 ^ d)) (λ k. bit a ((k + d) % n)) (or_lt n ((a * 2 ^ u) % 2 ^ n) (a / 2 ^ d) (up_lt n a u) (down_lt n a d h))
    (λ k l. turned n a u d k h l (swapped d u n (left n d (mod_below j n some))))
