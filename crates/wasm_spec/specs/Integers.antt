-- Operations on integers (core sections 4.3.1, 4.3.2 and 4.3.4, and the sign extensions of core 2.0).
-- An integer of N bits is a number below 2 ^ N.
use Rattle.std.specs.Prelude.{ℕ, zero, suc, ◌+◌, ◌-◌, ◌*◌, ◌/◌, ◌%◌, ◌^◌, ℤ, pos, negsuc, ◌-ℤ◌, ◌*ℤ◌, int_div, int_lt, int_le}
use Rattle.std.specs.Prelude.{min, max, Bool, not, ◌&&◌, ◌==◌, nat_lt, nat_le, Option, Some, None, if◌then◌else◌}
use Rattle.wasm_spec.specs.declared.types.ValueType.{ValueType}
use Rattle.wasm_spec.specs.declared.types.ValueType.TheVariants.{I32, I64}
use Rattle.wasm_spec.specs.declared.instructions.Sign.TheVariants.{Signed, Unsigned}
use Rattle.wasm_spec.specs.declared.instructions.Unary.{Unary}
use Rattle.wasm_spec.specs.declared.instructions.Unary.TheVariants as unary
use Rattle.wasm_spec.specs.declared.instructions.Binary.{Binary}
use Rattle.wasm_spec.specs.declared.instructions.Binary.TheVariants as binary
use Rattle.wasm_spec.specs.declared.instructions.Comparison.{Comparison}
use Rattle.wasm_spec.specs.declared.instructions.Comparison.TheVariants as comparison
use Rattle.wasm_spec.specs.declared.instructions.Conversion.{Conversion}
use Rattle.wasm_spec.specs.declared.instructions.Conversion.TheVariants as conversion
use Rattle.wasm_spec.specs.declared.instructions.Numeric.{Numeric}
use Rattle.wasm_spec.specs.declared.instructions.Numeric.TheVariants as numeric

-- signed and unsigned interpretation (4.3.1, 4.3.2)

-- signed_N: the signed interpretation of the integer
abbrev pub signed : ℕ → ℕ → ℤ
signed N i = if nat_lt i (2 ^ (N - 1)) then pos i else pos i -ℤ pos (2 ^ N)

-- the integer whose signed interpretation is this number
abbrev pub unsigned : ℕ → ℤ → ℕ
unsigned N (pos n) = n
unsigned N (negsuc n) = 2 ^ N - suc n

-- bit k, of which bit 0 is the least significant
abbrev pub bit : ℕ → ℕ → ℕ
bit i k = i / 2 ^ k % 2

-- f 0 + f 1 + .. + f (n - 1)
unfoldable pub sum_below : ℕ → (ℕ → ℕ) → ℕ
sum_below zero f = 0
sum_below (suc n) f = sum_below n f + f n

-- the integer of n bits with these bits
unfoldable pub integer_of : ℕ → (ℕ → ℕ) → ℕ
integer_of n bits = sum_below n (λ k. bits k * 2 ^ k)

-- the greatest number up to n that passes the test, or 0
unfoldable pub greatest : ℕ → (ℕ → Bool) → ℕ
greatest zero passes = 0
greatest (suc n) passes = if passes (suc n) then suc n else greatest n passes

-- arithmetic (4.3.2)

abbrev pub iadd : ℕ → ℕ → ℕ → ℕ
iadd N i j = (i + j) % 2 ^ N

abbrev pub isub : ℕ → ℕ → ℕ → ℕ
isub N i j = (i + 2 ^ N - j) % 2 ^ N

abbrev pub imul : ℕ → ℕ → ℕ → ℕ
imul N i j = (i * j) % 2 ^ N

-- None, undefined, if the divisor is 0
abbrev pub idiv_u : ℕ → ℕ → ℕ → Option ℕ
idiv_u N i j = if j == 0 then None else Some (i / j)

-- Rounded toward zero. None, undefined, if the divisor is 0 or the quotient is 2 ^ (N - 1), which is above every signed number of
-- N bits.
abbrev pub idiv_s : ℕ → ℕ → ℕ → Option ℕ
idiv_s N i j =
    if j == 0 then None else
    if (i == 2 ^ (N - 1)) && (j == 2 ^ N - 1) then None else Some (unsigned N (int_div (signed N i) (signed N j)))

-- the remainder
abbrev pub irem_u : ℕ → ℕ → ℕ → Option ℕ
irem_u N i j = if j == 0 then None else Some (i - j * (i / j))

abbrev pub irem_s : ℕ → ℕ → ℕ → Option ℕ
irem_s N i j = if j == 0 then None else Some (unsigned N (signed N i -ℤ signed N j *ℤ int_div (signed N i) (signed N j)))

-- bitwise operations (4.3.2)

abbrev pub iand : ℕ → ℕ → ℕ → ℕ
iand N i j = integer_of N (λ k. min (bit i k) (bit j k))

abbrev pub ior : ℕ → ℕ → ℕ → ℕ
ior N i j = integer_of N (λ k. max (bit i k) (bit j k))

-- a bit is 1 if exactly one of the two is
abbrev pub ixor : ℕ → ℕ → ℕ → ℕ
ixor N i j = integer_of N (λ k. (bit i k + bit j k) % 2)

-- shifts and rotations by a distance modulo N (4.3.2)

abbrev pub ishl : ℕ → ℕ → ℕ → ℕ
ishl N i j = (i * 2 ^ (j % N)) % 2 ^ N

abbrev pub ishr_u : ℕ → ℕ → ℕ → ℕ
ishr_u N i j = i / 2 ^ (j % N)

-- copies of the most significant bit are shifted in
abbrev pub ishr_s : ℕ → ℕ → ℕ → ℕ
ishr_s N i j = integer_of N (λ k. bit i (min (k + j % N) (N - 1)))

-- bit k of the result is bit k - j of i, modulo N
abbrev pub irotl : ℕ → ℕ → ℕ → ℕ
irotl N i j = integer_of N (λ k. bit i ((k + (N - j % N)) % N))

abbrev pub irotr : ℕ → ℕ → ℕ → ℕ
irotr N i j = integer_of N (λ k. bit i ((k + j % N) % N))

-- counts of bits (4.3.2)

-- the number of leading zero bits
abbrev pub iclz : ℕ → ℕ → ℕ
iclz N i = greatest N (λ n. i / 2 ^ (N - n) == 0)

-- the number of trailing zero bits
abbrev pub ictz : ℕ → ℕ → ℕ
ictz N i = greatest N (λ n. i % 2 ^ n == 0)

abbrev pub ipopcnt : ℕ → ℕ → ℕ
ipopcnt N i = sum_below N (bit i)

-- tests (4.3.2)

abbrev pub ieqz : ℕ → Bool
ieqz i = i == 0

abbrev pub ilt_s : ℕ → ℕ → ℕ → Bool
ilt_s N i j = int_lt (signed N i) (signed N j)

abbrev pub ile_s : ℕ → ℕ → ℕ → Bool
ile_s N i j = int_le (signed N i) (signed N j)

-- conversions between widths (4.3.4)

-- wrap_N: the integer modulo 2 ^ N
abbrev pub wrap : ℕ → ℕ → ℕ
wrap N i = i % 2 ^ N

-- extend_s_M,N: the integer of N bits with the same signed interpretation
abbrev pub extend_s : ℕ → ℕ → ℕ → ℕ
extend_s M N i = unsigned N (signed M i)

-- iextendM_s_N: the sign extension of the lowest M bits
abbrev pub iextend_s : ℕ → ℕ → ℕ → ℕ
iextend_s M N i = extend_s M N (wrap M i)

-- numeric instructions (4.4.1)

abbrev pub width : ValueType → ℕ
width I32 = 32
width I64 = 64

unfoldable pub unary_of : ℕ → Unary → ℕ → ℕ
unary_of N unary.Clz i = iclz N i
unary_of N unary.Ctz i = ictz N i
unary_of N unary.Popcnt i = ipopcnt N i

-- None: the operation is undefined, which is a trap
unfoldable pub binary_of : ℕ → Binary → ℕ → ℕ → Option ℕ
binary_of N binary.Add i j = Some (iadd N i j)
binary_of N binary.Sub i j = Some (isub N i j)
binary_of N binary.Mul i j = Some (imul N i j)
binary_of N (binary.Div Unsigned) i j = idiv_u N i j
binary_of N (binary.Div Signed) i j = idiv_s N i j
binary_of N (binary.Rem Unsigned) i j = irem_u N i j
binary_of N (binary.Rem Signed) i j = irem_s N i j
binary_of N binary.And i j = Some (iand N i j)
binary_of N binary.Or i j = Some (ior N i j)
binary_of N binary.Xor i j = Some (ixor N i j)
binary_of N binary.Shl i j = Some (ishl N i j)
binary_of N (binary.Shr Unsigned) i j = Some (ishr_u N i j)
binary_of N (binary.Shr Signed) i j = Some (ishr_s N i j)
binary_of N binary.Rotl i j = Some (irotl N i j)
binary_of N binary.Rotr i j = Some (irotr N i j)

unfoldable pub comparison_of : ℕ → Comparison → ℕ → ℕ → Bool
comparison_of N comparison.Eq i j = i == j
comparison_of N comparison.Ne i j = not (i == j)
comparison_of N (comparison.Lt Unsigned) i j = nat_lt i j
comparison_of N (comparison.Lt Signed) i j = ilt_s N i j
comparison_of N (comparison.Gt Unsigned) i j = nat_lt j i
comparison_of N (comparison.Gt Signed) i j = ilt_s N j i
comparison_of N (comparison.Le Unsigned) i j = nat_le i j
comparison_of N (comparison.Le Signed) i j = ile_s N i j
comparison_of N (comparison.Ge Unsigned) i j = nat_le j i
comparison_of N (comparison.Ge Signed) i j = ile_s N j i

unfoldable pub conversion_of : Conversion → ℕ → ℕ
conversion_of conversion.I32Wrap i = wrap 32 i
conversion_of (conversion.I64Extend Unsigned) i = i
conversion_of (conversion.I64Extend Signed) i = extend_s 32 64 i
conversion_of conversion.I32Extend8 i = iextend_s 8 32 i
conversion_of conversion.I32Extend16 i = iextend_s 16 32 i
conversion_of conversion.I64Extend8 i = iextend_s 8 64 i
conversion_of conversion.I64Extend16 i = iextend_s 16 64 i
conversion_of conversion.I64Extend32 i = iextend_s 32 64 i

-- the i32 result of a test
abbrev pub truth : Bool → ℕ
truth b = if b then 1 else 0

-- The result of an instruction on the operand i, or on i and j, where j is the topmost. An instruction with one operand ignores
-- j. None: undefined, which is a trap.
abbrev pub numeric_result : Numeric → (i j : ℕ) → Option ℕ
numeric_result (numeric.Eqz t) i j = Some (truth (ieqz i))
numeric_result (numeric.Compare t o) i j = Some (truth (comparison_of (width t) o i j))
numeric_result (numeric.Unary t o) i j = Some (unary_of (width t) o i)
numeric_result (numeric.Binary t o) i j = binary_of (width t) o i j
numeric_result (numeric.Convert o) i j = Some (conversion_of o i)
