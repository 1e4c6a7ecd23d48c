-- The laws of the operations on integers, as the search applies them.
use Rattle.std.proofs.Common.{◌≡◌, ℕ, ◌+◌, ◌-◌, ◌*◌, ◌/◌, ◌%◌, ◌^◌, ◌<◌, arith}
use Rattle.std.specs.Int.{w32, w64}
use Rattle.std.specs.Int.Count.{count_trailing_zeros}
use Rattle.std.proofs.lemmas.Nat.{div-add-mod', or_lt, xor_lt}
use Rattle.std.proofs.Math.Nat.{mul_comm}
use Rattle.wasm_spec.specs.declared.types.ValueType.{ValueType}
use Rattle.wasm_spec.specs.declared.types.ValueType.TheVariants.{I32, I64}
use Rattle.wasm_spec.specs.Integers.{isub, ictz, width}
use Rattle.wasm_num.proofs.BitLaws.{iand_is, ior_is, ixor_is}
use Rattle.wasm_num.proofs.CountLaws.{iclz_is, ictz_is, ipopcnt_is}
use Rattle.wasm_num.proofs.TurnLaws.{irotl_is, irotr_is}

-- the search does not find a width from its number of bits
pub ictz_32 : (a : ℕ) → a < 2 ^ 32 → count_trailing_zeros 32 a ≡ ictz 32 a
ictz_32 a h = ictz_is w32 a h

pub ictz_64 : (a : ℕ) → a < 2 ^ 64 → count_trailing_zeros 64 a ≡ ictz 64 a
ictz_64 a h = ictz_is w64 a h

pub ruleset count_laws = (iclz_is, ictz_32, ictz_64, ipopcnt_is)

-- a number of 64 bits is wrapped to the width
pub wrapped : (t : ValueType) (x : ℕ) → x % 2 ^ 64 % 2 ^ width t ≡ x % 2 ^ width t
wrapped I32 x = omega arith
wrapped I64 x = omega arith

pub isub_is : (t : ValueType) (a b : ℕ) → b < 2 ^ width t → (a + (2 ^ 64 - b)) % 2 ^ 64 % 2 ^ width t ≡ isub (width t) a b
isub_is I32 a b h = omega arith
isub_is I64 a b h = omega arith

pub left_over_is : (i j : ℕ) → i % j ≡ i - j * (i / j)
left_over_is i j = omega (arith, div-add-mod' i j, mul_comm j (i / j))

pub ruleset bit_laws = (iand_is, ior_is, ixor_is, or_lt, xor_lt, wrapped, isub_is, left_over_is, irotl_is, irotr_is)
