-- Integers from their bits.
use Rattle.std.proofs.Common.{◌≡◌, ℕ, zero, suc, ◌+◌, ◌*◌, ◌/◌, ◌%◌, ◌^◌, ◌<◌, refl, sym, ap, ap₂, ◌∙◌, arith}
use Rattle.std.proofs.lemmas.Nat.{shr_split, shr_below, mod_below, pow_pos}
use Rattle.std.proofs.lemmas.Nat.Bits.{bit_at_cat_low}
use Rattle.wasm_spec.specs.Integers.{bit, sum_below, integer_of}

-- the n low bits, and the bit above them
pub high_bit : (n x : ℕ) → x < 2 ^ suc n → x / 2 ^ n < 2
high_bit n x h = shr_below x 1 n (let e : 2 ^ (1 + n) ≡ 2 ^ suc n = ap (λ k. 2 ^ k) (omega arith) in omega arith)

pub small_bit : (x : ℕ) → x < 2 → x % 2 ≡ x
small_bit x h = omega arith

pub low_bits : (n x k : ℕ) → k < n → bit (x % 2 ^ n) k ≡ bit x k
low_bits n x k h = sym (bit_at_cat_low (x / 2 ^ n) n (x % 2 ^ n) k h) ∙ ap (λ y. bit y k) (shr_split x n)

pub sum_same : (n : ℕ) (f g : ℕ → ℕ) → ((k : ℕ) → k < n → f k ≡ g k) → sum_below n f ≡ sum_below n g
unfolding sum_below
sum_same zero f g h = refl
sum_same (suc n) f g h = ap₂ (λ a b. a + b) (sum_same n f g (λ k l. h k (omega (arith, l)))) (h n (omega arith))

-- an integer of n bits is the one that has its bits
pub integer_is : (n x : ℕ) (bits : ℕ → ℕ) → x < 2 ^ n → ((k : ℕ) → k < n → bit x k ≡ bits k) → x ≡ integer_of n bits
unfolding integer_of sum_below
integer_is zero x bits h same = omega (arith, h)
integer_is (suc n) x bits h same =
    let low = integer_is n (x % 2 ^ n) bits (mod_below x (2 ^ n) (pow_pos n)) (λ k l. low_bits n x k l ∙ same k (omega (arith, l))) in
    let high : x / 2 ^ n ≡ bits n = sym (small_bit (x / 2 ^ n) (high_bit n x h)) ∙ same n (omega arith) in
    omega (arith, shr_split x n, low, ap (λ d. d * 2 ^ n) high)
