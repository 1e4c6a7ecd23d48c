-- The effects of the instructions that never branch (core sections 4.4.1 to 4.4.4).
use Rattle.std.specs.Prelude.{ℕ, ◌+◌, ◌-◌, ◌*◌, ◌^◌, nat_le, List, [], ◌∷◌, ◌++◌, Option, Some, None, slice_get, slice_set}
use Rattle.std.specs.Prelude.{replicate, if◌then◌else◌}
use Rattle.wasm_spec.specs.declared.types.ValueType.TheVariants.{I32}
use Rattle.wasm_spec.specs.declared.types.Taken.{Taken}
use Rattle.wasm_spec.specs.declared.types.Taken.TheVariants as operands
use Rattle.wasm_spec.specs.declared.values.Value.{Value}
use Rattle.wasm_spec.specs.declared.values.Value.TheVariants as value
use Rattle.wasm_spec.specs.declared.values.TrapKind.{TrapKind}
use Rattle.wasm_spec.specs.declared.values.TrapKind.TheVariants.{OutOfBounds, Arithmetic}
use Rattle.wasm_spec.specs.declared.instructions.Numeric.{Numeric}
use Rattle.wasm_spec.specs.declared.instructions.LoadKind.{LoadKind}
use Rattle.wasm_spec.specs.declared.instructions.Plain.{Plain}
use Rattle.wasm_spec.specs.declared.instructions.Plain.TheVariants as op
use Rattle.wasm_spec.specs.Integers.{numeric_result}
use Rattle.wasm_spec.specs.Memory.{loaded, stored}
use Rattle.wasm_spec.specs.Typing.{numeric_signature, load_type, store_type}
use Rattle.wasm_spec.specs.Stores.{value_of, result_values, pop, PAGE, Store, pages, with_bytes}

-- The effect of an instruction. Grows also demands a charge for that many new bytes. Lacks: an operand, local or global is
-- missing or has another type.
pub data Effect : Type 0 where
  Leaves : (operands locals : List Value) (store : Store) → Effect
  Grows : (bytes : ℕ) (operands locals : List Value) (store : Store) → Effect
  Faults : TrapKind → Effect
  Lacks : Effect

abbrev pub with_some : {A : Type 0} → Option A → (A → Effect) → Effect
with_some None go = Lacks
with_some (Some x) go = go x

-- numeric instructions (4.4.1)

abbrev pub gives : Numeric → Option ℕ → List Value → List Value → Store → Effect
gives o None ops locals store = Faults Arithmetic
gives o (Some n) ops locals store = Leaves (result_values (numeric_signature o).gives n ++ ops) locals store

-- the effect of an instruction that pops these operands
abbrev pub numeric_effect : Numeric → Taken → List Value → List Value → Store → Effect
numeric_effect o operands.None ops locals store = Lacks
numeric_effect o (operands.One t) ops locals store = pop Lacks t ops (λ i ops. gives o (numeric_result o i 0) ops locals store)
numeric_effect o (operands.Two t u) ops locals store =
    pop Lacks t ops (λ j ops. pop Lacks u ops (λ i ops. gives o (numeric_result o i j) ops locals store))

-- parametric instructions (4.4.2)

abbrev pub drop_effect : List Value → List Value → Store → Effect
drop_effect [] locals store = Lacks
drop_effect (v ∷ ops) locals store = Leaves ops locals store

-- the lower of the two topmost values if the number is not 0, else the topmost
abbrev pub chosen : ℕ → List Value → List Value → Store → Effect
chosen n [] locals store = Lacks
chosen n (v ∷ []) locals store = Lacks
chosen n (v ∷ w ∷ ops) locals store = Leaves ((if nat_le 1 n then w else v) ∷ ops) locals store

-- variables (4.4.3)

abbrev pub local_set : ℕ → List Value → List Value → Store → Effect
local_set i [] locals store = Lacks
local_set i (v ∷ ops) locals store = with_some (slice_get locals i) (λ _. Leaves ops (slice_set locals i v) store)

abbrev pub local_tee : ℕ → List Value → List Value → Store → Effect
local_tee i [] locals store = Lacks
local_tee i (v ∷ ops) locals store = with_some (slice_get locals i) (λ _. Leaves (v ∷ ops) (slice_set locals i v) store)

abbrev pub global_set : ℕ → List Value → List Value → Store → Effect
global_set i [] locals store = Lacks
global_set i (v ∷ ops) locals store =
    with_some (slice_get store.globals i) (λ _. Leaves ops locals (record store { globals = slice_set store.globals i v }))

-- memory (4.4.4)

-- the effect of a load that read this number, or None outside the memory
abbrev pub loads : LoadKind → Option ℕ → List Value → List Value → Store → Effect
loads l None ops locals store = Faults OutOfBounds
loads l (Some n) ops locals store = Leaves (value_of (load_type l) n ∷ ops) locals store

-- the effect of a store that left these bytes in the memory, or None outside it
abbrev pub stores : Option (List ℕ) → List Value → List Value → Store → Effect
stores None ops locals store = Faults OutOfBounds
stores (Some bytes) ops locals store = Leaves ops locals (with_bytes bytes store)

-- the effect of memory.grow by n pages
abbrev pub grows : ℕ → List Value → List Value → Store → Effect
grows n ops locals store =
    if nat_le (pages store.memory + n) store.memory.most_pages
    then Grows (n * PAGE) (value.I32 (pages store.memory) ∷ ops) locals
    (with_bytes (store.memory.bytes ++ replicate (n * PAGE) 0) store)
    else Leaves (value.I32 (2 ^ 32 - 1) ∷ ops) locals store

abbrev pub effect_of : Plain → List Value → List Value → Store → Effect
effect_of op.Nop ops locals store = Leaves ops locals store
effect_of op.Drop ops locals store = drop_effect ops locals store
effect_of op.Select ops locals store = pop Lacks I32 ops (λ n ops. chosen n ops locals store)
effect_of (op.LocalGet i) ops locals store = with_some (slice_get locals i) (λ v. Leaves (v ∷ ops) locals store)
effect_of (op.LocalSet i) ops locals store = local_set i ops locals store
effect_of (op.LocalTee i) ops locals store = local_tee i ops locals store
effect_of (op.GlobalGet i) ops locals store = with_some (slice_get store.globals i) (λ v. Leaves (v ∷ ops) locals store)
effect_of (op.GlobalSet i) ops locals store = global_set i ops locals store
effect_of (op.Load l m) ops locals store =
    pop Lacks I32 ops (λ a ops. loads l (loaded store.memory.bytes l a m.offset) ops locals store)
effect_of (op.Store s m) ops locals store =
    pop Lacks (store_type s) ops
    (λ n ops. pop Lacks I32 ops (λ a ops. stores (stored store.memory.bytes s a m.offset n) ops locals store))
effect_of op.MemorySize ops locals store = Leaves (value.I32 (pages store.memory) ∷ ops) locals store
effect_of op.MemoryGrow ops locals store = pop Lacks I32 ops (λ n ops. grows n ops locals store)
effect_of (op.I32Const n) ops locals store = Leaves (value.I32 n ∷ ops) locals store
effect_of (op.I64Const n) ops locals store = Leaves (value.I64 n ∷ ops) locals store
effect_of (op.Numeric o) ops locals store = numeric_effect o (numeric_signature o).takes ops locals store
