-- Access to memory (core sections 4.3.1 and 4.4.4). A memory is the list of its bytes.
use Rattle.std.specs.Prelude.{ℕ, zero, suc, ◌+◌, ◌*◌, ◌/◌, ◌%◌, ◌^◌, nat_le, List, [], ◌∷◌, ◌++◌, length, take, drop, Option}
use Rattle.std.specs.Prelude.{Some, None, if◌then◌else◌}
use Rattle.std.specs.Option.{option_map}
use Rattle.wasm_spec.specs.declared.instructions.Sign.TheVariants.{Signed, Unsigned}
use Rattle.wasm_spec.specs.declared.instructions.LoadKind.{LoadKind}
use Rattle.wasm_spec.specs.declared.instructions.LoadKind.TheVariants as load
use Rattle.wasm_spec.specs.declared.instructions.StoreKind.{StoreKind}
use Rattle.wasm_spec.specs.Typing.{load_exponent, store_exponent}
use Rattle.wasm_spec.specs.Integers.{extend_s}

-- little endian (4.3.1): the least significant byte comes first

unfoldable pub integer_of_bytes : List ℕ → ℕ
integer_of_bytes [] = 0
integer_of_bytes (b ∷ bs) = b + 256 * integer_of_bytes bs

-- the n lowest bytes of an integer
unfoldable pub bytes_of_integer : ℕ → ℕ → List ℕ
bytes_of_integer zero i = []
bytes_of_integer (suc n) i = i % 256 ∷ bytes_of_integer n (i / 256)

-- the n bytes from address a on, if the memory has all of them
unfoldable pub bytes_at : List ℕ → (a n : ℕ) → Option (List ℕ)
bytes_at memory a n = if nat_le (a + n) (length memory) then Some (take n (drop a memory)) else None

-- the memory with these bytes written from address a on, if all of them fit
unfoldable pub with_bytes_at : List ℕ → ℕ → List ℕ → Option (List ℕ)
with_bytes_at memory a bs =
    if nat_le (a + length bs) (length memory) then Some (take a memory ++ bs ++ drop (a + length bs) memory) else None

-- the loaded integer, extended to the type of the result
unfoldable pub extended : LoadKind → ℕ → ℕ
extended load.I32 i = i
extended load.I64 i = i
extended (load.I32From8 Unsigned) i = i
extended (load.I32From8 Signed) i = extend_s 8 32 i
extended (load.I32From16 Unsigned) i = i
extended (load.I32From16 Signed) i = extend_s 16 32 i
extended (load.I64From8 Unsigned) i = i
extended (load.I64From8 Signed) i = extend_s 8 64 i
extended (load.I64From16 Unsigned) i = i
extended (load.I64From16 Signed) i = extend_s 16 64 i
extended (load.I64From32 Unsigned) i = i
extended (load.I64From32 Signed) i = extend_s 32 64 i

-- The result of a load at this address and offset, whose sum does not wrap. None: a byte lies outside the memory, which is a
-- trap.
unfoldable pub loaded : List ℕ → LoadKind → (address offset : ℕ) → Option ℕ
loaded memory l address offset =
    option_map (λ bs. extended l (integer_of_bytes bs)) (bytes_at memory (address + offset) (2 ^ load_exponent l))

-- The memory after a store of this integer. A narrow store writes the lowest bytes. None: a byte lies outside the memory, which
-- is a trap.
unfoldable pub stored : List ℕ → StoreKind → (address offset i : ℕ) → Option (List ℕ)
stored memory s address offset i = with_bytes_at memory (address + offset) (bytes_of_integer (2 ^ store_exponent s) i)
