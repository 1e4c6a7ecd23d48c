-- Plain instructions, where their operands are known.
use Rattle.std.proofs.Common.{◌≡◌, ℕ, List, [], ◌∷◌, Option, Some, None, refl, ap, ◌∙◌, subst}
use Rattle.std.specs.Prelude.{Result, Ok, Err, IfOk, slice_get, slice_set}
use Rattle.wasm_spec.specs.declared.types.ValueType.{ValueType}
use Rattle.wasm_spec.specs.declared.types.ValueType.TheVariants.{I32, I64}
use Rattle.wasm_spec.specs.declared.types.Taken.{Taken}
use Rattle.wasm_spec.specs.declared.types.Taken.TheVariants as taken
use Rattle.wasm_spec.specs.declared.instructions.LoadKind.{LoadKind}
use Rattle.wasm_spec.specs.declared.instructions.Plain.{Plain}
use Rattle.wasm_spec.specs.declared.values.Value.{Value}
use Rattle.wasm_spec.specs.declared.instructions.Numeric.{Numeric}
use Rattle.wasm_spec.specs.Integers.{numeric_result}
use Rattle.wasm_spec.specs.Stores.{type_of, value_of, pop, Store}
use Rattle.wasm_spec.specs.Effects.{Effect, Leaves, Grows, Faults, Lacks, with_some, gives, numeric_effect, chosen, loads}
use Rattle.wasm_spec.specs.declared.values.Value.TheVariants as value
use Rattle.wasm_spec.specs.declared.instructions.Plain.TheVariants as op
use Rattle.wasm_spec.specs.Typing.{store_type, numeric_signature}
use Rattle.wasm_spec.specs.Memory.{loaded, stored}
use Rattle.wasm_spec.specs.Effects.{stores, effect_of}
use Rattle.wasm_machine.specs.Numbers.{HasTop, HasPair}
use Rattle.wasm_machine.specs.Machine.{Machine, Fails, affects}
use Rattle.wasm_machine.specs.MachineState.{CanApply}

pub pop_value : {A : Type 0} (other : A) (t : ValueType) (n : ℕ) (rest : List Value) (go : ℕ → List Value → A) → pop other t (value_of t n ∷ rest) go ≡ go n rest
pop_value other I32 n rest go = refl
pop_value other I64 n rest go = refl

pub one_is : (o : Numeric) (t : ValueType) (n : ℕ) (ops rest locals : List Value) (store : Store) → ops ≡ value_of t n ∷ rest → numeric_effect o (taken.One t) ops locals store ≡ gives o (numeric_result o n 0) rest locals store
one_is o t n ops rest locals store e =
    ap (λ x. numeric_effect o (taken.One t) x locals store) e ∙ pop_value Lacks t n rest (λ i ops. gives o (numeric_result o i 0) ops locals store)

pub if_ok : {T E : Type 0} (r : Result T E) (P Q : T → Type 0) → IfOk r P → ((t : T) → P t → Q t) → IfOk r Q
if_ok (Ok x) P Q p f = f x p
if_ok (Err e) P Q p f = tt

top_of : (t : ValueType) (v : Value) (ops : List Value) → type_of v ≡ t → HasTop t (v ∷ ops)
top_of I32 (value.I32 n) ops e = tt
top_of I32 (value.I64 n) ops e = cc
top_of I64 (value.I32 n) ops e = cc
top_of I64 (value.I64 n) ops e = tt

pub pair_top : (t u : ValueType) (ops : List Value) → HasPair t u ops → HasTop t ops
pair_top t u [] h = absurd h
pair_top t u (v ∷ ops) h = top_of t v ops h.0

pub pair_next : (t u : ValueType) (n : ℕ) (ops rest : List Value) → ops ≡ value_of t n ∷ rest → HasPair t u ops → HasTop u rest
pair_next t u n ops rest e h = let g = subst (HasPair t u) e h in g.1

pub two_is : (o : Numeric) (t : ValueType) (i j : ℕ) (ops mid rest locals : List Value) (store : Store) → ops ≡ value_of t j ∷ mid → mid ≡ value_of t i ∷ rest → numeric_effect o (taken.Two t t) ops locals store ≡ gives o (numeric_result o i j) rest locals store
two_is o t i j ops mid rest locals store e f =
    ap (λ x. numeric_effect o (taken.Two t t) x locals store) e ∙ pop_value Lacks t j mid (λ j ops. pop Lacks t ops (λ i ops. gives o (numeric_result o i j) ops locals store))
    ∙ ap (λ x. pop Lacks t x (λ i ops. gives o (numeric_result o i j) ops locals store)) f ∙ pop_value Lacks t i rest (λ i ops. gives o (numeric_result o i j) ops locals store)

-- what an effect that can be applied finds

-- an effect that never asks for new memory
abbrev Never : Effect → Type 0
Never (Leaves ops locals store) = Unit {0}
Never (Faults kind) = Unit {0}
Never (Grows bytes ops locals store) = ⊥
Never Lacks = Unit {0}

never_some : {A : Type 0} (o : Option A) (f : A → Effect) → ((x : A) → Never (f x)) → Never (with_some o f)
never_some None f h = tt
never_some (Some x) f h = h x

never_pop : (t : ValueType) (ops : List Value) (go : ℕ → List Value → Effect) → ((n : ℕ) (rest : List Value) → Never (go n rest)) → Never (pop Lacks t ops go)
never_pop t [] go h = tt
never_pop I32 (value.I32 n ∷ ops) go h = h n ops
never_pop I32 (value.I64 n ∷ ops) go h = tt
never_pop I64 (value.I32 n ∷ ops) go h = tt
never_pop I64 (value.I64 n ∷ ops) go h = h n ops

never_gives : (o : Numeric) (r : Option ℕ) (ops locals : List Value) (store : Store) → Never (gives o r ops locals store)
never_gives o None ops locals store = tt
never_gives o (Some n) ops locals store = tt

never_numeric : (o : Numeric) (k : Taken) (ops locals : List Value) (store : Store) → Never (numeric_effect o k ops locals store)
never_numeric o taken.None ops locals store = tt
never_numeric o (taken.One t) ops locals store = never_pop t ops (λ i ops. gives o (numeric_result o i 0) ops locals store) (λ i rest. never_gives o (numeric_result o i 0) rest locals store)
never_numeric o (taken.Two t u) ops locals store =
    never_pop t ops (λ j ops. pop Lacks u ops (λ i ops. gives o (numeric_result o i j) ops locals store)) (λ j mid.
    never_pop u mid (λ i ops. gives o (numeric_result o i j) ops locals store) (λ i rest. never_gives o (numeric_result o i j) rest locals store))

never_chosen : (n : ℕ) (ops locals : List Value) (store : Store) → Never (chosen n ops locals store)
never_chosen n [] locals store = tt
never_chosen n (v ∷ []) locals store = tt
never_chosen n (v ∷ w ∷ ops) locals store = tt

never_loads : (l : LoadKind) (o : Option ℕ) (ops locals : List Value) (store : Store) → Never (loads l o ops locals store)
never_loads l None ops locals store = tt
never_loads l (Some n) ops locals store = tt

never_stores : (o : Option (List ℕ)) (ops locals : List Value) (store : Store) → Never (stores o ops locals store)
never_stores None ops locals store = tt
never_stores (Some bytes) ops locals store = tt

never_grows : (p : Plain) (ops locals : List Value) (store : Store) → (p ≡ op.MemoryGrow → ⊥) → Never (effect_of p ops locals store)
never_grows op.Nop ops locals store ne = tt
never_grows op.Drop [] locals store ne = tt
never_grows op.Drop (v ∷ ops) locals store ne = tt
never_grows op.Select ops locals store ne = never_pop I32 ops (λ n ops. chosen n ops locals store) (λ n rest. never_chosen n rest locals store)
never_grows (op.LocalGet i) ops locals store ne = never_some (slice_get locals i) (λ v. Leaves (v ∷ ops) locals store) (λ v. tt)
never_grows (op.LocalSet i) [] locals store ne = tt
never_grows (op.LocalSet i) (v ∷ ops) locals store ne = never_some (slice_get locals i) (λ _. Leaves ops (slice_set locals i v) store) (λ w. tt)
never_grows (op.LocalTee i) [] locals store ne = tt
never_grows (op.LocalTee i) (v ∷ ops) locals store ne = never_some (slice_get locals i) (λ _. Leaves (v ∷ ops) (slice_set locals i v) store) (λ w. tt)
never_grows (op.GlobalGet i) ops locals store ne = never_some (slice_get store.globals i) (λ v. Leaves (v ∷ ops) locals store) (λ v. tt)
never_grows (op.GlobalSet i) [] locals store ne = tt
never_grows (op.GlobalSet i) (v ∷ ops) locals store ne = never_some (slice_get store.globals i) (λ _. Leaves ops locals (record store { globals = slice_set store.globals i v })) (λ w. tt)
never_grows (op.Load l a) ops locals store ne = never_pop I32 ops (λ n ops. loads l (loaded store.memory.bytes l n a.offset) ops locals store) (λ n rest. never_loads l (loaded store.memory.bytes l n a.offset) rest locals store)
never_grows (op.Store s a) ops locals store ne =
    never_pop (store_type s) ops (λ n ops. pop Lacks I32 ops (λ i ops. stores (stored store.memory.bytes s i a.offset n) ops locals store)) (λ n mid.
    never_pop I32 mid (λ i ops. stores (stored store.memory.bytes s i a.offset n) ops locals store) (λ i rest. never_stores (stored store.memory.bytes s i a.offset n) rest locals store))
never_grows op.MemorySize ops locals store ne = tt
never_grows op.MemoryGrow ops locals store ne = absurd (ne refl)
never_grows (op.I32Const n) ops locals store ne = tt
never_grows (op.I64Const n) ops locals store ne = tt
never_grows (op.Numeric o) ops locals store ne = never_numeric o (numeric_signature o).takes ops locals store

can_if : (e : Effect) (m : Machine) → Never e → (affects e m ≡ Fails → ⊥) → CanApply e
can_if (Leaves ops locals store) m n h = tt
can_if (Faults kind) m n h = tt
can_if (Grows bytes ops locals store) m n h = absurd n
can_if Lacks m n h = absurd (h refl)

-- a plain instruction that is not memory.grow can be applied where its move does not fail
pub can_apply : (p : Plain) (ops locals : List Value) (store : Store) (m : Machine) → (p ≡ op.MemoryGrow → ⊥) → (affects (effect_of p ops locals store) m ≡ Fails → ⊥) → CanApply (effect_of p ops locals store)
can_apply p ops locals store m ne h = can_if (effect_of p ops locals store) m (never_grows p ops locals store ne) h
