-- The operations on bits, as integers of their bits.
use Rattle.std.proofs.Common.{◌≡◌, ℕ, ◌+◌, ◌%◌, ◌^◌, ◌<◌, min, max, arith}
use Rattle.std.specs.Prelude.{bit_and, bit_or, bit_xor}
use Rattle.std.proofs.lemmas.Nat.{and_le_l, or_lt, xor_lt}
use Rattle.std.proofs.lemmas.Nat.Bits.{bit_at_and, bit_at_or, bit_at_xor}
use Rattle.wasm_spec.specs.Integers.{bit, iand, ior, ixor}
use Rattle.wasm_num.proofs.SumLaws.{integer_is}

pub iand_is : (n a b : ℕ) → a < 2 ^ n → b < 2 ^ n → bit_and a b ≡ iand n a b
iand_is n a b h g = integer_is n (bit_and a b) (λ k. min (bit a k) (bit b k)) (omega (arith, and_le_l a b)) (λ k l. bit_at_and a b k)

pub ior_is : (n a b : ℕ) → a < 2 ^ n → b < 2 ^ n → bit_or a b ≡ ior n a b
ior_is n a b h g = integer_is n (bit_or a b) (λ k. max (bit a k) (bit b k)) (or_lt n a b h g) (λ k l. bit_at_or a b k)

pub ixor_is : (n a b : ℕ) → a < 2 ^ n → b < 2 ^ n → bit_xor a b ≡ ixor n a b
ixor_is n a b h g = integer_is n (bit_xor a b) (λ k. (bit a k + bit b k) % 2) (xor_lt n a b h g) (λ k l. bit_at_xor a b k)
