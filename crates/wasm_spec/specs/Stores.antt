-- Values and the store: memory, globals and the table (core section 4.2).
use Rattle.std.specs.Prelude.{ℕ, ◌+◌, ◌/◌, List, [], ◌∷◌, ◌++◌, length, take, drop, Option, Some, None}
use Rattle.wasm_spec.specs.declared.types.ValueType.{ValueType}
use Rattle.wasm_spec.specs.declared.types.ValueType.TheVariants.{I32, I64}
use Rattle.wasm_spec.specs.declared.values.Value.{Value}
use Rattle.wasm_spec.specs.declared.values.Value.TheVariants as value
use Rattle.wasm_spec.specs.Code.{BlockType}
use Rattle.wasm_spec.specs.Integers.{width, wrap}

-- values (4.2.1)

abbrev pub type_of : Value → ValueType
type_of (value.I32 n) = I32
type_of (value.I64 n) = I64

abbrev pub number_of : Value → ℕ
number_of (value.I32 n) = n
number_of (value.I64 n) = n

abbrev pub value_of : ValueType → ℕ → Value
value_of I32 n = value.I32 n
value_of I64 n = value.I64 n

-- this number as the result of a block or function, if it has one
abbrev pub result_values : BlockType → ℕ → List Value
result_values None n = []
result_values (Some t) n = value_of t n ∷ []

-- a host's answer as the result of a function: its lowest bits
abbrev pub answered : BlockType → ℕ → List Value
answered None n = []
answered (Some t) n = value_of t (wrap (width t) n) ∷ []

-- the initial value of a local (4.4.7)
abbrev pub zero_of : ValueType → Value
zero_of t = value_of t 0

-- Applies go to the number of a value, if it has the type.
abbrev pub typed_as : {A : Type 0} → A → ValueType → Value → (ℕ → A) → A
typed_as other I32 (value.I32 n) go = go n
typed_as other I32 (value.I64 n) go = other
typed_as other I64 (value.I32 n) go = other
typed_as other I64 (value.I64 n) go = go n

-- Pops the topmost operand and applies go to its number and the operands below, if it has the type.
abbrev pub pop : {A : Type 0} → A → ValueType → List Value → (ℕ → List Value → A) → A
pop other t [] go = other
pop other t (v ∷ ops) go = typed_as other t v (λ n. go n ops)

-- the items with others written over them from an offset on, in memory or in a table
abbrev pub overwritten : {A : Type 0} → List A → ℕ → List A → List A
overwritten items offset news = take offset items ++ news ++ drop (offset + length news) items

-- the store (4.2.3)

-- the bytes in a page (4.2.8)
abbrev pub PAGE : ℕ
PAGE = 65536

-- a memory, and the most pages that it may grow to (4.2.8)
pub record Memory : Type 0 where
  pub bytes : List ℕ
  pub most_pages : ℕ

-- The mutable parts of an instance. A table element that was never set is None (4.2.7).
pub record Store : Type 0 where
  pub memory : Memory
  pub globals : List Value
  pub table : List (Option ℕ)

abbrev pub pages : Memory → ℕ
pages m = length m.bytes / PAGE

-- the store with these bytes in its memory
abbrev pub with_bytes : List ℕ → Store → Store
with_bytes bytes s = record s { memory = record s.memory { bytes = bytes } }
