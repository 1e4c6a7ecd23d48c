-- Code of a valid module is never stuck.
use Rattle.std.proofs.Common.{◌≡◌, ℕ, zero, suc, ◌+◌, ◌<◌, Bool, true, false, List, [], ◌∷◌, ◌++◌, length, map, Option, Some, None, refl, sym, ap, ◌∙◌, subst}
use Rattle.std.specs.Prelude.{slice_get, slice_set, reverse, option_to_list, nat_le, ◌&&◌, if◌then◌else◌}
use Rattle.std.specs.List.{AllByRecursion}
use Rattle.std.proofs.lemmas.Bool.{and_parts}
use Rattle.budget_meter.specs.declared.kind.Kind.{Kind}
use Rattle.budget_meter.specs.declared.kind.Kind.TheVariants.{WasmInsnExec, MemAlloc}
use Rattle.budget_meter.specs.Meter.{Meter, used_after}
use Rattle.wasm_spec.specs.declared.types.ValueType.{ValueType}
use Rattle.wasm_spec.specs.declared.types.ValueType.TheVariants.{I32, I64}
use Rattle.wasm_spec.specs.declared.types.Mutability.{Mutability}
use Rattle.wasm_spec.specs.declared.types.Mutability.TheVariants.{Constant, Variable}
use Rattle.wasm_spec.specs.declared.types.Taken.{Taken}
use Rattle.wasm_spec.specs.declared.types.Taken.TheVariants as operands
use Rattle.wasm_spec.specs.declared.types.Signature.{Signature}
use Rattle.wasm_spec.specs.declared.types.FuncType.{FuncType}
use Rattle.wasm_spec.specs.declared.values.Value.{Value}
use Rattle.wasm_spec.specs.declared.values.Value.TheVariants as value
use Rattle.wasm_spec.specs.declared.instructions.Numeric.{Numeric}
use Rattle.wasm_spec.specs.declared.instructions.Numeric.TheVariants as numeric
use Rattle.wasm_spec.specs.declared.instructions.LoadKind.{LoadKind}
use Rattle.wasm_spec.specs.declared.instructions.Plain.{Plain}
use Rattle.wasm_spec.specs.declared.instructions.Plain.TheVariants as op
use Rattle.wasm_spec.specs.declared.instructions.Control.{Control}
use Rattle.wasm_spec.specs.declared.instructions.Control.TheVariants as jump
use Rattle.wasm_spec.specs.declared.module.Global.{Global}
use Rattle.wasm_spec.specs.declared.module.Module.{Module}
use Rattle.wasm_spec.specs.Code.{Code, end, plain, control, block, loop, choose, BlockType}
use Rattle.wasm_spec.specs.Typing.{◌>>=◌, Context, inside, function_indices, function_type, result_of, numeric_signature, load_type, store_type, when, set_signature, signature, taken_types, Applies, PlainTyped, label, ControlTyped, CodeTyped, load_exponent, store_exponent, has_memory}
use Rattle.wasm_spec.specs.Integers.{numeric_result}
use Rattle.wasm_spec.specs.Memory.{loaded, stored}
use Rattle.wasm_spec.specs.Stores.{type_of, value_of, result_values, typed_as, pop, Store, pages}
use Rattle.wasm_spec.specs.Effects.{Effect, Leaves, Grows, Faults, Lacks, with_some, gives, numeric_effect, drop_effect, chosen, local_set, local_tee, global_set, loads, stores, grows, effect_of}
use Rattle.wasm_spec.specs.Runs.{State, Run, Normal, Branch, Return, Trap, Spent, Stuck, Ask, charged_if, charged, counted, executed, has_room, effect_run, then_do, carried, whole, onto, leave, again, turns}
use Rattle.wasm_spec.specs.Meaning.{NamesImport, same_type, same_types, same_function_type, Calls, at_zero, label_for, matching_call, typed_call, element_call, indirect_call, control_run, exec}

-- what is typed

-- values of these types
abbrev pub HasTypes : List Value → List ValueType → Type 0
HasTypes [] [] = Unit {0}
HasTypes [] (t ∷ ts) = ⊥
HasTypes (v ∷ vs) [] = ⊥
HasTypes (v ∷ vs) (t ∷ ts) = (type_of v ≡ t) × HasTypes vs ts

abbrev pub global_types : List Global → List ValueType
global_types gs = map (λ (g : Global). g.value_type) gs

-- an element of the table that is set is a function that is there
abbrev pub ElementKnown : Module → Option ℕ → Type 0
ElementKnown m None = Unit {0}
ElementKnown m (Some f) = f < length (function_indices m)

abbrev pub StoreTyped : Module → Store → Type 0
StoreTyped m s = HasTypes s.globals (global_types m.globals) × AllByRecursion (ElementKnown m) s.table

abbrev pub StateTyped : Context → State → Type 0
StateTyped c s = HasTypes s.locals c.locals × StoreTyped c.module_ s.store

-- a run that is as the code's type says, and not stuck
abbrev pub Good : Context → List ValueType → Run → Type 0
Good c us (Normal ops s) = HasTypes ops us × StateTyped c s
Good c us (Branch k ops s) =
    (r : BlockType) × (below : List ValueType) × (slice_get c.labels k ≡ Some r) × HasTypes ops (option_to_list r ++ below) × StateTyped c s
Good c us (Return ops s) = (below : List ValueType) × HasTypes ops (option_to_list c.result ++ below) × StateTyped c s
Good c us (Trap kind meter) = Unit {0}
Good c us (Spent meter) = Unit {0}
Good c us Stuck = ⊥
Good c us (Ask f args memory meter on) = NamesImport c.module_ f args × ((v : ℕ) (bytes : List ℕ) (b : Meter) → Good c us (on v bytes b))

-- a call's run: it never branches out of the function, and it keeps the caller's locals
abbrev pub CallGood : Module → List Value → List ValueType → Run → Type 0
CallGood m locals us (Normal ops s) = HasTypes ops us × (s.locals ≡ locals) × StoreTyped m s.store
CallGood m locals us (Branch k ops s) = ⊥
CallGood m locals us (Return ops s) = ⊥
CallGood m locals us (Trap kind meter) = Unit {0}
CallGood m locals us (Spent meter) = Unit {0}
CallGood m locals us Stuck = ⊥
CallGood m locals us (Ask f args memory meter on) = NamesImport m f args × ((v : ℕ) (bytes : List ℕ) (b : Meter) → CallGood m locals us (on v bytes b))

abbrev pub CallsGood : Module → Calls → Type 0
CallsGood m go = (f : ℕ) (t : FuncType) (below : List ValueType) (ops : List Value) (s : State) → function_type m f ≡ Some t → HasTypes ops (reverse t.params ++ below) → StoreTyped m s.store
    → CallGood m s.locals (option_to_list (result_of t) ++ below) (go f ops s)

-- each function has its type
abbrev pub FunctionsKnown : Module → Type 0
FunctionsKnown m = (f : ℕ) → f < length (function_indices m) → (t : FuncType) × (function_type m f ≡ Some t)

-- lists of values

pub HasTypes-append : (vs ws : List Value) (ts us : List ValueType) → HasTypes vs ts → HasTypes ws us → HasTypes (vs ++ ws) (ts ++ us)
HasTypes-append [] ws [] us h g = g
HasTypes-append [] ws (t ∷ ts) us h g = absurd h
HasTypes-append (v ∷ vs) ws [] us h g = absurd h
HasTypes-append (v ∷ vs) ws (t ∷ ts) us h g = (h.0, HasTypes-append vs ws ts us h.1 g)

pub value_at : (vs : List Value) (ts : List ValueType) (i : ℕ) (t : ValueType) → HasTypes vs ts → slice_get ts i ≡ Some t → (v : Value) × (slice_get vs i ≡ Some v) × (type_of v ≡ t)
value_at [] [] i t h e = cc
value_at [] (u ∷ ts) i t h e = absurd h
value_at (v ∷ vs) [] i t h e = absurd h
value_at (v ∷ vs) (u ∷ ts) zero t h e = let f : u ≡ t = cc in (v, refl, h.0 ∙ f)
value_at (v ∷ vs) (u ∷ ts) (suc i) t h e = value_at vs ts i t h.1 e

value_set : (vs : List Value) (ts : List ValueType) (i : ℕ) (w : Value) (t : ValueType) → HasTypes vs ts → slice_get ts i ≡ Some t → type_of w ≡ t → HasTypes (slice_set vs i w) ts
value_set [] [] i w t h e q = tt
value_set [] (u ∷ ts) i w t h e q = absurd h
value_set (v ∷ vs) [] i w t h e q = absurd h
value_set (v ∷ vs) (u ∷ ts) zero w t h e q = let f : t ≡ u = cc in (q ∙ f, h.1)
value_set (v ∷ vs) (u ∷ ts) (suc i) w t h e q = (h.0, value_set vs ts i w t h.1 e q)

global_at : (gs : List Global) (i : ℕ) (g : Global) → slice_get gs i ≡ Some g → slice_get (global_types gs) i ≡ Some g.value_type
global_at [] i g e = cc
global_at (h ∷ gs) zero g e = let f : h ≡ g = cc in ap (λ (x : Global). Some x.value_type) f
global_at (h ∷ gs) (suc i) g e = global_at gs i g e

pub type-value_of : (t : ValueType) (n : ℕ) → type_of (value_of t n) ≡ t
type-value_of I32 n = refl
type-value_of I64 n = refl

pub results_typed : (r : BlockType) (n : ℕ) (rest : List Value) (below : List ValueType) → HasTypes rest below → HasTypes (result_values r n ++ rest) (option_to_list r ++ below)
results_typed None n rest below h = h
results_typed (Some t) n rest below h = (type-value_of t n, h)

-- a popped operand

typed_as_is : {A : Type 0} (P : A → Type 0) (other : A) (t : ValueType) (v : Value) (go : ℕ → A) → type_of v ≡ t → ((n : ℕ) → v ≡ value_of t n → P (go n)) → P (typed_as other t v go)
typed_as_is P other I32 (value.I32 n) go e next = next n refl
typed_as_is P other I32 (value.I64 n) go e next = cc
typed_as_is P other I64 (value.I32 n) go e next = cc
typed_as_is P other I64 (value.I64 n) go e next = next n refl

pub pop_is : {A : Type 0} (P : A → Type 0) (other : A) (t : ValueType) (ops : List Value) (go : ℕ → List Value → A) (below : List ValueType) → HasTypes ops (t ∷ below) → ((n : ℕ) (rest : List Value) → HasTypes rest below → P (go n rest)) → P (pop other t ops go)
pop_is P other t [] go below h next = absurd h
pop_is P other t (v ∷ ops) go below h next = typed_as_is P other t v (λ n. go n ops) h.0 (λ n e. next n ops h.1)

-- instructions that go on

abbrev pub EffectGood : Module → List ValueType → List ValueType → Effect → Type 0
EffectGood m ls us (Leaves ops locals store) = HasTypes ops us × HasTypes locals ls × StoreTyped m store
EffectGood m ls us (Grows bytes ops locals store) = HasTypes ops us × HasTypes locals ls × StoreTyped m store
EffectGood m ls us (Faults kind) = Unit {0}
EffectGood m ls us Lacks = ⊥

pub bind_is : {A B : Type 0} (o : Option A) (f : A → Option B) (y : B) → (o >>= f) ≡ Some y → (x : A) × (o ≡ Some x) × (f x ≡ Some y)
bind_is None f y e = cc
bind_is (Some x) f y e = (x, refl, e)

when_is : (b : Bool) (s t : Signature) → when b s ≡ Some t → s ≡ t
when_is false s t e = cc
when_is true s t e = cc

set_is : (x : Mutability) (t : ValueType) (s : Signature) → set_signature x t ≡ Some s → signature (operands.One t) None ≡ s
set_is Constant t s e = cc
set_is Variable t s e = cc

takes_some : (o : Numeric) → (numeric_signature o).takes ≡ operands.None → ⊥
takes_some (numeric.Eqz t) e = cc
takes_some (numeric.Compare t o) e = cc
takes_some (numeric.Unary t o) e = cc
takes_some (numeric.Binary t o) e = cc
takes_some (numeric.Convert o) e = cc

by_signature : (m : Module) (ls ts us : List ValueType) (s r : Signature) (ops : List Value) (e : Effect) → s ≡ r → Applies r ts us → HasTypes ops ts → ((below : List ValueType) → HasTypes ops (taken_types s.takes ++ below) → EffectGood m ls (option_to_list s.gives ++ below) e) → EffectGood m ls us e
by_signature m ls ts us s r ops e q a h next =
    let b : Applies s ts us = subst (λ x. Applies x ts us) (sym q) a in
    subst (λ w. EffectGood m ls w e) (sym b.2) (next b.0 (subst (HasTypes ops) b.1 h))

either_effect : (m : Module) (ls us : List ValueType) (b : Bool) (e f : Effect) → EffectGood m ls us e → EffectGood m ls us f → EffectGood m ls us (if b then e else f)
either_effect m ls us true e f he hf = he
either_effect m ls us false e f he hf = hf

either_type : (b : Bool) (v w : Value) (t : ValueType) → type_of v ≡ t → type_of w ≡ t → type_of (if b then v else w) ≡ t
either_type true v w t hv hw = hv
either_type false v w t hv hw = hw

module _ (m : Module) (ls : List ValueType) (locals : List Value) (store : Store) (l : HasTypes locals ls) (st : StoreTyped m store) where
  gives_good : (o : Numeric) (r : Option ℕ) (ops : List Value) (below : List ValueType) → HasTypes ops below → EffectGood m ls (option_to_list (numeric_signature o).gives ++ below) (gives o r ops locals store)
  gives_good o None ops below h = tt
  gives_good o (Some n) ops below h = (results_typed (numeric_signature o).gives n ops below h, l, st)

  numeric_good : (o : Numeric) (k : Taken) (ops : List Value) (below : List ValueType) → (numeric_signature o).takes ≡ k → HasTypes ops (taken_types k ++ below) → EffectGood m ls (option_to_list (numeric_signature o).gives ++ below) (numeric_effect o k ops locals store)
  numeric_good o operands.None ops below e h = absurd (takes_some o e)
  numeric_good o (operands.One t) ops below e h =
      pop_is (EffectGood m ls (option_to_list (numeric_signature o).gives ++ below)) Lacks t ops (λ i ops. gives o (numeric_result o i 0) ops locals store) below h
      (λ i rest hr. gives_good o (numeric_result o i 0) rest below hr)
  numeric_good o (operands.Two t u) ops below e h =
      pop_is (EffectGood m ls (option_to_list (numeric_signature o).gives ++ below)) Lacks t ops (λ j ops. pop Lacks u ops (λ i ops. gives o (numeric_result o i j) ops locals store)) (u ∷ below) h
      (λ j ops' h'. pop_is (EffectGood m ls (option_to_list (numeric_signature o).gives ++ below)) Lacks u ops' (λ i ops. gives o (numeric_result o i j) ops locals store) below h'
      (λ i rest hr. gives_good o (numeric_result o i j) rest below hr))

  drop_good : (ops : List Value) (t : ValueType) (us : List ValueType) → HasTypes ops (t ∷ us) → EffectGood m ls us (drop_effect ops locals store)
  drop_good [] t us h = h
  drop_good (v ∷ ops) t us h = (h.1, l, st)

  chosen_good : (n : ℕ) (ops : List Value) (t : ValueType) (below : List ValueType) → HasTypes ops (t ∷ t ∷ below) → EffectGood m ls (t ∷ below) (chosen n ops locals store)
  chosen_good n [] t below h = h
  chosen_good n (v ∷ []) t below h = h.1
  chosen_good n (v ∷ w ∷ ops) t below h = ((either_type (nat_le 1 n) w v t h.1.0 h.0, h.1.1), l, st)

  local_set_good : (i : ℕ) (t : ValueType) (ops : List Value) (us : List ValueType) → slice_get ls i ≡ Some t → HasTypes ops (t ∷ us) → EffectGood m ls us (local_set i ops locals store)
  local_set_good i t [] us e h = h
  local_set_good i t (v ∷ ops) us e h =
      let found = value_at locals ls i t l e in
      subst (λ o. EffectGood m ls us (with_some o (λ _. Leaves ops (slice_set locals i v) store))) (sym found.1) (h.1, value_set locals ls i v t l e h.0, st)

  local_tee_good : (i : ℕ) (t : ValueType) (ops : List Value) (us : List ValueType) → slice_get ls i ≡ Some t → HasTypes ops (t ∷ us) → EffectGood m ls (t ∷ us) (local_tee i ops locals store)
  local_tee_good i t [] us e h = h
  local_tee_good i t (v ∷ ops) us e h =
      let found = value_at locals ls i t l e in
      subst (λ o. EffectGood m ls (t ∷ us) (with_some o (λ _. Leaves (v ∷ ops) (slice_set locals i v) store))) (sym found.1) (h, value_set locals ls i v t l e h.0, st)

  global_set_good : (i : ℕ) (g : Global) (ops : List Value) (us : List ValueType) → slice_get m.globals i ≡ Some g → HasTypes ops (g.value_type ∷ us) → EffectGood m ls us (global_set i ops locals store)
  global_set_good i g [] us e h = h
  global_set_good i g (v ∷ ops) us e h =
      let q = global_at m.globals i g e in
      let found = value_at store.globals (global_types m.globals) i g.value_type st.0 q in
      subst (λ o. EffectGood m ls us (with_some o (λ _. Leaves ops locals (record store { globals = slice_set store.globals i v })))) (sym found.1)
      (h.1, l, (value_set store.globals (global_types m.globals) i v g.value_type st.0 q h.0, st.1))

  loads_good : (f : LoadKind) (o : Option ℕ) (ops : List Value) (below : List ValueType) → HasTypes ops below → EffectGood m ls (load_type f ∷ below) (loads f o ops locals store)
  loads_good f None ops below h = tt
  loads_good f (Some n) ops below h = ((type-value_of (load_type f) n, h), l, st)

  stores_good : (o : Option (List ℕ)) (ops : List Value) (below : List ValueType) → HasTypes ops below → EffectGood m ls below (stores o ops locals store)
  stores_good None ops below h = tt
  stores_good (Some bytes) ops below h = (h, l, st)

  grows_good : (n : ℕ) (ops : List Value) (below : List ValueType) → HasTypes ops below → EffectGood m ls (I32 ∷ below) (grows n ops locals store)
  grows_good n ops below h = either_effect m ls (I32 ∷ below) (nat_le (pages store.memory + n) store.memory.most_pages) _ _ ((refl, h), l, st) ((refl, h), l, st)

pub effect_good : (c : Context) (p : Plain) (ts us : List ValueType) (ops locals : List Value) (store : Store) → PlainTyped c p ts us → HasTypes ops ts → HasTypes locals c.locals → StoreTyped c.module_ store → EffectGood c.module_ c.locals us (effect_of p ops locals store)
effect_good c op.Nop ts us ops locals store t h l st =
    let q : signature operands.None None ≡ t.0 = cc in
    by_signature c.module_ c.locals ts us (signature operands.None None) t.0 ops (effect_of op.Nop ops locals store) q t.2 h (λ below g. (g, l, st))
effect_good c op.Drop ts us ops locals store t h l st = drop_good c.module_ c.locals locals store l st ops t.0 us (subst (HasTypes ops) t.1 h)
effect_good c op.Select ts us ops locals store t h l st =
    subst (λ w. EffectGood c.module_ c.locals w (effect_of op.Select ops locals store)) (sym t.3)
    (pop_is (EffectGood c.module_ c.locals (t.0 ∷ t.1)) Lacks I32 ops (λ n ops. chosen n ops locals store) (t.0 ∷ t.0 ∷ t.1) (subst (HasTypes ops) t.2 h)
    (λ n rest hr. chosen_good c.module_ c.locals locals store l st n rest t.0 t.1 hr))
effect_good c (op.LocalGet i) ts us ops locals store t h l st =
    let b = bind_is (slice_get c.locals i) (λ (t : ValueType). Some (signature operands.None (Some t))) t.0 t.1 in
    let q : signature operands.None (Some b.0) ≡ t.0 = cc in
    let found = value_at locals c.locals i b.0 l b.1 in
    by_signature c.module_ c.locals ts us (signature operands.None (Some b.0)) t.0 ops (effect_of (op.LocalGet i) ops locals store) q t.2 h
    (λ below g. subst (λ o. EffectGood c.module_ c.locals (b.0 ∷ below) (with_some o (λ v. Leaves (v ∷ ops) locals store))) (sym found.1) ((found.2, g), l, st))
effect_good c (op.LocalSet i) ts us ops locals store t h l st =
    let b = bind_is (slice_get c.locals i) (λ (t : ValueType). Some (signature (operands.One t) None)) t.0 t.1 in
    let q : signature (operands.One b.0) None ≡ t.0 = cc in
    by_signature c.module_ c.locals ts us (signature (operands.One b.0) None) t.0 ops (effect_of (op.LocalSet i) ops locals store) q t.2 h
    (λ below g. local_set_good c.module_ c.locals locals store l st i b.0 ops below b.1 g)
effect_good c (op.LocalTee i) ts us ops locals store t h l st =
    let b = bind_is (slice_get c.locals i) (λ (t : ValueType). Some (signature (operands.One t) (Some t))) t.0 t.1 in
    let q : signature (operands.One b.0) (Some b.0) ≡ t.0 = cc in
    by_signature c.module_ c.locals ts us (signature (operands.One b.0) (Some b.0)) t.0 ops (effect_of (op.LocalTee i) ops locals store) q t.2 h
    (λ below g. local_tee_good c.module_ c.locals locals store l st i b.0 ops below b.1 g)
effect_good c (op.GlobalGet i) ts us ops locals store t h l st =
    let b = bind_is (slice_get c.module_.globals i) (λ (g : Global). Some (signature operands.None (Some g.value_type))) t.0 t.1 in
    let q : signature operands.None (Some b.0.value_type) ≡ t.0 = cc in
    let found = value_at store.globals (global_types c.module_.globals) i b.0.value_type st.0 (global_at c.module_.globals i b.0 b.1) in
    by_signature c.module_ c.locals ts us (signature operands.None (Some b.0.value_type)) t.0 ops (effect_of (op.GlobalGet i) ops locals store) q t.2 h
    (λ below g. subst (λ o. EffectGood c.module_ c.locals (b.0.value_type ∷ below) (with_some o (λ v. Leaves (v ∷ ops) locals store))) (sym found.1) ((found.2, g), l, st))
effect_good c (op.GlobalSet i) ts us ops locals store t h l st =
    let b = bind_is (slice_get c.module_.globals i) (λ (g : Global). set_signature g.mutability g.value_type) t.0 t.1 in
    let q = set_is b.0.mutability b.0.value_type t.0 b.2 in
    by_signature c.module_ c.locals ts us (signature (operands.One b.0.value_type) None) t.0 ops (effect_of (op.GlobalSet i) ops locals store) q t.2 h
    (λ below g. global_set_good c.module_ c.locals locals store l st i b.0 ops below b.1 g)
effect_good c (op.Load f a) ts us ops locals store t h l st =
    let q = when_is (has_memory c && nat_le a.align (load_exponent f)) (signature (operands.One I32) (Some (load_type f))) t.0 t.1 in
    by_signature c.module_ c.locals ts us (signature (operands.One I32) (Some (load_type f))) t.0 ops (effect_of (op.Load f a) ops locals store) q t.2 h
    (λ below g. pop_is (EffectGood c.module_ c.locals (load_type f ∷ below)) Lacks I32 ops (λ n ops. loads f (loaded store.memory.bytes f n a.offset) ops locals store) below g
    (λ n rest hr. loads_good c.module_ c.locals locals store l st f (loaded store.memory.bytes f n a.offset) rest below hr))
effect_good c (op.Store f a) ts us ops locals store t h l st =
    let q = when_is (has_memory c && nat_le a.align (store_exponent f)) (signature (operands.Two (store_type f) I32) None) t.0 t.1 in
    by_signature c.module_ c.locals ts us (signature (operands.Two (store_type f) I32) None) t.0 ops (effect_of (op.Store f a) ops locals store) q t.2 h
    (λ below g. pop_is (EffectGood c.module_ c.locals below) Lacks (store_type f) ops (λ n ops. pop Lacks I32 ops (λ i ops. stores (stored store.memory.bytes f i a.offset n) ops locals store)) (I32 ∷ below) g
    (λ n ops' h'. pop_is (EffectGood c.module_ c.locals below) Lacks I32 ops' (λ i ops. stores (stored store.memory.bytes f i a.offset n) ops locals store) below h'
    (λ i rest hr. stores_good c.module_ c.locals locals store l st (stored store.memory.bytes f i a.offset n) rest below hr)))
effect_good c op.MemorySize ts us ops locals store t h l st =
    let q = when_is (has_memory c) (signature operands.None (Some I32)) t.0 t.1 in
    by_signature c.module_ c.locals ts us (signature operands.None (Some I32)) t.0 ops (effect_of op.MemorySize ops locals store) q t.2 h (λ below g. ((refl, g), l, st))
effect_good c op.MemoryGrow ts us ops locals store t h l st =
    let q = when_is (has_memory c) (signature (operands.One I32) (Some I32)) t.0 t.1 in
    by_signature c.module_ c.locals ts us (signature (operands.One I32) (Some I32)) t.0 ops (effect_of op.MemoryGrow ops locals store) q t.2 h
    (λ below g. pop_is (EffectGood c.module_ c.locals (I32 ∷ below)) Lacks I32 ops (λ n ops. grows n ops locals store) below g
    (λ n rest hr. grows_good c.module_ c.locals locals store l st n rest below hr))
effect_good c (op.I32Const n) ts us ops locals store t h l st =
    let q = when_is _ (signature operands.None (Some I32)) t.0 t.1 in
    by_signature c.module_ c.locals ts us (signature operands.None (Some I32)) t.0 ops (effect_of (op.I32Const n) ops locals store) q t.2 h (λ below g. ((refl, g), l, st))
effect_good c (op.I64Const n) ts us ops locals store t h l st =
    let q = when_is _ (signature operands.None (Some I64)) t.0 t.1 in
    by_signature c.module_ c.locals ts us (signature operands.None (Some I64)) t.0 ops (effect_of (op.I64Const n) ops locals store) q t.2 h (λ below g. ((refl, g), l, st))
effect_good c (op.Numeric o) ts us ops locals store t h l st =
    let q : numeric_signature o ≡ t.0 = cc in
    by_signature c.module_ c.locals ts us (numeric_signature o) t.0 ops (effect_of (op.Numeric o) ops locals store) q t.2 h
    (λ below g. numeric_good c.module_ c.locals locals store l st o (numeric_signature o).takes ops below refl g)

-- runs

charged_if_good : (c : Context) (us : List ValueType) (b : Bool) (after : Meter) (s : State) (go : State → Run) → Good c us (go (record s { meter = after })) → Good c us (charged_if b Spent after s go)
charged_if_good c us false after s go h = tt
charged_if_good c us true after s go h = h

charged_good : (c : Context) (us : List ValueType) (kind : Kind) (input : ℕ) (s : State) (go : State → Run) → ((after : Meter) → Good c us (go (record s { meter = after }))) → Good c us (charged kind input Spent s go)
charged_good c us kind input s go h =
    let used = used_after s.meter kind input in
    charged_if_good c us (has_room s.meter.limits used) (record s.meter { used = used }) s go (h (record s.meter { used = used }))

counted_good : (c : Context) (us : List ValueType) (n : ℕ) (s : State) (go : State → Run) → ((k : ℕ) (after : Meter) → Good c us (go (record s { left = k; meter = after }))) → Good c us (counted n Spent s go)
counted_good c us zero s go h = tt
counted_good c us (suc k) s go h = charged_good c us WasmInsnExec 1 (record s { left = k }) go (h k)

executed_good : (c : Context) (us : List ValueType) (s : State) (go : State → Run) → ((k : ℕ) (after : Meter) → Good c us (go (record s { left = k; meter = after }))) → Good c us (executed Spent s go)
executed_good c us s go h = counted_good c us s.left s go h

effect_run_good : (c : Context) (us : List ValueType) (e : Effect) (s : State) → EffectGood c.module_ c.locals us e → Good c us (effect_run e s)
effect_run_good c us (Leaves ops locals store) s h = (h.0, (h.1, h.2))
effect_run_good c us (Grows bytes ops locals store) s h =
    charged_good c us MemAlloc bytes s (λ s. Normal ops (record s { locals = locals; store = store })) (λ after. (h.0, (h.1, h.2)))
effect_run_good c us (Faults kind) s h = tt
effect_run_good c us Lacks s h = h

then_good : (c : Context) (us ws : List ValueType) (r : Run) (go : List Value → State → Run) → Good c us r → ((ops : List Value) (s : State) → HasTypes ops us → StateTyped c s → Good c ws (go ops s)) → Good c ws (then_do r go)
then_good c us ws (Normal ops s) go h next = next ops s h.0 h.1
then_good c us ws (Branch k ops s) go h next = h
then_good c us ws (Return ops s) go h next = h
then_good c us ws (Trap kind meter) go h next = tt
then_good c us ws (Spent meter) go h next = tt
then_good c us ws Stuck go h next = absurd h
then_good c us ws (Ask f args memory meter on) go h next = (h.0, λ v bytes b. then_good c us ws (on v bytes b) go (h.1 v bytes b) next)

pub whole_good : (c : Context) (r : BlockType) (ops under : List Value) (ts : List ValueType) (s : State) → HasTypes ops (option_to_list r) → HasTypes under ts → StateTyped c s → Good c (option_to_list r ++ ts) (onto under s (whole r ops))
whole_good c None [] under ts s h u l = (u, l)
whole_good c None (v ∷ ops) under ts s h u l = h
whole_good c (Some t) [] under ts s h u l = h
whole_good c (Some t) (v ∷ []) under ts s h u l = ((h.0, u), l)
whole_good c (Some t) (v ∷ w ∷ ops) under ts s h u l = h.1

pub carried_good : (c : Context) (r : BlockType) (ops under : List Value) (below ts : List ValueType) (s : State) → HasTypes ops (option_to_list r ++ below) → HasTypes under ts → StateTyped c s → Good c (option_to_list r ++ ts) (onto under s (carried r ops))
carried_good c None ops under below ts s h u l = (u, l)
carried_good c (Some t) [] under below ts s h u l = h
carried_good c (Some t) (v ∷ ops) under below ts s h u l = ((h.0, u), l)

-- the values of a branch to the block's own label
pub own_label : (r q : BlockType) (ops : List Value) (below : List ValueType) → Some r ≡ Some q → HasTypes ops (option_to_list q ++ below) → HasTypes ops (option_to_list r ++ below)
own_label r q ops below e h = let f : r ≡ q = cc in subst (λ (x : BlockType). HasTypes ops (option_to_list x ++ below)) (sym f) h

leave_good : (c : Context) (r : BlockType) (under : List Value) (ts : List ValueType) (run : Run) → Good (inside r c) (option_to_list r) run → HasTypes under ts → Good c (option_to_list r ++ ts) (leave r under run)
leave_good c r under ts (Normal ops s) h u = whole_good c r ops under ts s h.0 u h.1
leave_good c r under ts (Branch zero ops s) h u = carried_good c r ops under h.1 ts s (own_label r h.0 ops h.1 h.2 h.3) u h.4
leave_good c r under ts (Branch (suc k) ops s) h u = h
leave_good c r under ts (Return ops s) h u = h
leave_good c r under ts (Trap kind meter) h u = tt
leave_good c r under ts (Spent meter) h u = tt
leave_good c r under ts Stuck h u = h
leave_good c r under ts (Ask f args memory meter on) h u = (h.0, λ v bytes b. leave_good c r under ts (on v bytes b) (h.1 v bytes b) u)

again_good : (c : Context) (r : BlockType) (under : List Value) (ts : List ValueType) (run : Run) (go : State → Run) → Good (inside None c) (option_to_list r) run → HasTypes under ts → ((s : State) → StateTyped c s → Good c (option_to_list r ++ ts) (leave r under (go s))) → Good c (option_to_list r ++ ts) (leave r under (again go run))
again_good c r under ts (Normal ops s) go h u next = whole_good c r ops under ts s h.0 u h.1
again_good c r under ts (Branch zero ops s) go h u next = next s h.4
again_good c r under ts (Branch (suc k) ops s) go h u next = h
again_good c r under ts (Return ops s) go h u next = h
again_good c r under ts (Trap kind meter) go h u next = tt
again_good c r under ts (Spent meter) go h u next = tt
again_good c r under ts Stuck go h u next = h
again_good c r under ts (Ask f args memory meter on) go h u next = (h.0, λ v bytes b. again_good c r under ts (on v bytes b) go (h.1 v bytes b) u next)

turns_good : (n : ℕ) (c : Context) (r : BlockType) (under : List Value) (ts : List ValueType) (body : State → Run) → HasTypes under ts → ((s : State) → StateTyped c s → Good (inside None c) (option_to_list r) (body s)) → (s : State) → StateTyped c s → Good c (option_to_list r ++ ts) (leave r under (turns n body s))
turns_good zero c r under ts body u h s l = tt
turns_good (suc n) c r under ts body u h s l = again_good c r under ts (body s) (turns n body) (h s l) u (turns_good n c r under ts body u h)

from_call : (c : Context) (us : List ValueType) (locals : List Value) (r : Run) → HasTypes locals c.locals → CallGood c.module_ locals us r → Good c us r
from_call c us locals (Normal ops s) l h = (h.0, (subst (λ x. HasTypes x c.locals) (sym h.1) l, h.2))
from_call c us locals (Branch k ops s) l h = absurd h
from_call c us locals (Return ops s) l h = absurd h
from_call c us locals (Trap kind meter) l h = tt
from_call c us locals (Spent meter) l h = tt
from_call c us locals Stuck l h = h
from_call c us locals (Ask f args memory meter on) l h = (h.0, λ v bytes b. from_call c us locals (on v bytes b) l (h.1 v bytes b))

either_good : (c : Context) (us : List ValueType) (n : ℕ) (a b : Run) → Good c us a → Good c us b → Good c us (at_zero n a b)
either_good c us zero a b ha hb = ha
either_good c us (suc n) a b ha hb = hb

-- control instructions

same_type_is : (t u : ValueType) → same_type t u ≡ true → t ≡ u
same_type_is I32 I32 e = refl
same_type_is I32 I64 e = cc
same_type_is I64 I32 e = cc
same_type_is I64 I64 e = refl

pub same_types_are : (ts us : List ValueType) → same_types ts us ≡ true → ts ≡ us
same_types_are [] [] e = refl
same_types_are [] (u ∷ us) e = cc
same_types_are (t ∷ ts) [] e = cc
same_types_are (t ∷ ts) (u ∷ us) e =
    let p = and_parts (same_type t u) (same_types ts us) e in
    let h = same_type_is t u p.0 in
    let r = same_types_are ts us p.1 in
    cc

label_good : (c : Context) (ls : List ℕ) (l n : ℕ) (r : BlockType) → AllByRecursion (λ k. label c k ≡ Some r) ls → label c l ≡ Some r → label c (label_for ls l n) ≡ Some r
label_good c [] l n r h e = e
label_good c (k ∷ ls) l zero r h e = h.0
label_good c (k ∷ ls) l (suc n) r h e = label_good c ls l n r h.1 e

element_known : (m : Module) (table : List (Option ℕ)) (n f : ℕ) → AllByRecursion (ElementKnown m) table → slice_get table n ≡ Some (Some f) → f < length (function_indices m)
element_known m [] n f h e = cc
element_known m (None ∷ table) zero f h e = cc
element_known m (Some g ∷ table) zero f h e = let q : g ≡ f = cc in subst (λ x. x < length (function_indices m)) q h.0
element_known m (o ∷ table) (suc n) f h e = element_known m table n f h.1 e

module _ (m : Module) (go : Calls) (known : FunctionsKnown m) (go_good : CallsGood m go) where
  matching_good : (b : Bool) (t u : FuncType) (f : ℕ) (below : List ValueType) (ops : List Value) (s : State) → same_function_type t u ≡ b → function_type m f ≡ Some u → HasTypes ops (reverse t.params ++ below) → StoreTyped m s.store
      → CallGood m s.locals (option_to_list (result_of t) ++ below) (matching_call b go f ops s)
  matching_good false t u f below ops s e q h st = tt
  matching_good true t u f below ops s e q h st =
      let p = and_parts (same_types t.params u.params) (same_types t.results u.results) e in
      let hp = same_types_are t.params u.params p.0 in
      let hr = same_types_are t.results u.results p.1 in
      subst (λ (x : List ValueType). CallGood m s.locals (option_to_list (slice_get x 0) ++ below) (go f ops s)) (sym hr)
      (go_good f u below ops s q (subst (λ (x : List ValueType). HasTypes ops (reverse x ++ below)) hp h) st)

  typed_good : (t : FuncType) (o : Option FuncType) (f : ℕ) (below : List ValueType) (ops : List Value) (s : State) → function_type m f ≡ o → f < length (function_indices m) → HasTypes ops (reverse t.params ++ below) → StoreTyped m s.store
      → CallGood m s.locals (option_to_list (result_of t) ++ below) (typed_call go t o f ops s)
  typed_good t None f below ops s e lt h st = let k = known f lt in let q : None ≡ Some k.0 = sym e ∙ k.1 in cc
  typed_good t (Some u) f below ops s e lt h st = matching_good (same_function_type t u) t u f below ops s refl e h st

  element_good : (t : FuncType) (o : Option (Option ℕ)) (n : ℕ) (below : List ValueType) (ops : List Value) (s : State) → slice_get s.store.table n ≡ o → HasTypes ops (reverse t.params ++ below) → StoreTyped m s.store
      → CallGood m s.locals (option_to_list (result_of t) ++ below) (element_call m go t o ops s)
  element_good t None n below ops s e h st = tt
  element_good t (Some None) n below ops s e h st = tt
  element_good t (Some (Some f)) n below ops s e h st = typed_good t (function_type m f) f below ops s refl (element_known m s.store.table n f st.1 e) h st

  indirect_good : (t : FuncType) (o : Option FuncType) (n : ℕ) (below : List ValueType) (ops : List Value) (s : State) → o ≡ Some t → HasTypes ops (reverse t.params ++ below) → StoreTyped m s.store
      → CallGood m s.locals (option_to_list (result_of t) ++ below) (indirect_call m go o n ops s)
  indirect_good t None n below ops s e h st = cc
  indirect_good t (Some u) n below ops s e h st =
      let q : u ≡ t = cc in
      subst (λ (x : FuncType). CallGood m s.locals (option_to_list (result_of t) ++ below) (element_call m go x (slice_get s.store.table n) ops s)) (sym q)
      (element_good t (slice_get s.store.table n) n below ops s refl h st)

module _ (go : Calls) where
  control_good : (c : Context) (k : Control) (ts us : List ValueType) (ops : List Value) (s : State) → FunctionsKnown c.module_ → CallsGood c.module_ go → ControlTyped c k ts us → HasTypes ops ts → StateTyped c s → Good c us (control_run c.module_ go k ops s)
  control_good c jump.Unreachable ts us ops s known gg t h l = tt
  control_good c (jump.Br k) ts us ops s known gg t h l = (t.0, t.1, t.2, subst (HasTypes ops) t.3 h, l)
  control_good c (jump.BrIf k) ts us ops s known gg t h l =
      pop_is (Good c us) Stuck I32 ops (λ n ops. at_zero n (Normal ops s) (Branch k ops s)) (option_to_list t.0 ++ t.1) (subst (HasTypes ops) t.3 h) (λ n rest hr.
      either_good c us n (Normal rest s) (Branch k rest s) (subst (HasTypes rest) (sym t.4) hr, l) (t.0, t.1, t.2, hr, l))
  control_good c (jump.BrTable ks k) ts us ops s known gg t h l =
      pop_is (Good c us) Stuck I32 ops (λ n ops. Branch (label_for ks k n) ops s) (option_to_list t.0 ++ t.1) (subst (HasTypes ops) t.4 h) (λ n rest hr.
      (t.0, t.1, label_good c ks k n t.0 t.3 t.2, hr, l))
  control_good c jump.Return ts us ops s known gg t h l = (t.0, subst (HasTypes ops) t.1 h, l)
  control_good c (jump.Call f) ts us ops s known gg t h l =
      subst (λ w. Good c w (go f ops s)) (sym t.2.2)
      (from_call c (option_to_list (result_of t.0) ++ t.2.0) s.locals (go f ops s) l.0 (gg f t.0 t.2.0 ops s t.1 (subst (HasTypes ops) t.2.1 h) l.1))
  control_good c (jump.CallIndirect i) ts us ops s known gg t h l =
      pop_is (Good c us) Stuck I32 ops (λ n ops. indirect_call c.module_ go (slice_get c.module_.types i) n ops s) t.1 (subst (HasTypes ops) t.4 h) (λ n rest hr.
      subst (λ w. Good c w (indirect_call c.module_ go (slice_get c.module_.types i) n rest s)) (sym t.5.2)
      (from_call c (option_to_list (result_of t.0) ++ t.5.0) s.locals (indirect_call c.module_ go (slice_get c.module_.types i) n rest s) l.0
      (indirect_good c.module_ go known gg t.0 (slice_get c.module_.types i) n t.5.0 rest s t.3 (subst (HasTypes rest) t.5.1 hr) l.1)))

  pub exec_good : (x : Code) (c : Context) (ts us : List ValueType) (ops : List Value) (s : State) → FunctionsKnown c.module_ → CallsGood c.module_ go → CodeTyped c x ts us → HasTypes ops ts → StateTyped c s → Good c us (exec c.module_ go x ops s)
  exec_good end c ts us ops s known gg t h l = (subst (HasTypes ops) (sym t) h, l)
  exec_good (plain p rest) c ts us ops s known gg t h l =
      executed_good c us s (λ s. then_do (effect_run (effect_of p ops s.locals s.store) s) (exec c.module_ go rest)) (λ k after.
      let s' : State = record s { left = k; meter = after } in
      then_good c t.0 us (effect_run (effect_of p ops s.locals s.store) s') (exec c.module_ go rest)
      (effect_run_good c t.0 (effect_of p ops s.locals s.store) s' (effect_good c p ts t.0 ops s.locals s.store t.1 h l.0 l.1))
      (λ ops' s'' h' l'. exec_good rest c t.0 us ops' s'' known gg t.2 h' l'))
  exec_good (control i rest) c ts us ops s known gg t h l =
      executed_good c us s (λ s. then_do (control_run c.module_ go i ops s) (exec c.module_ go rest)) (λ k after.
      let s' : State = record s { left = k; meter = after } in
      then_good c t.0 us (control_run c.module_ go i ops s') (exec c.module_ go rest)
      (control_good c i ts t.0 ops s' known gg t.1 h l)
      (λ ops' s'' h' l'. exec_good rest c t.0 us ops' s'' known gg t.2 h' l'))
  exec_good (block r body rest) c ts us ops s known gg t h l =
      executed_good c us s (λ s. then_do (leave r ops (exec c.module_ go body [] s)) (exec c.module_ go rest)) (λ k after.
      let s' : State = record s { left = k; meter = after } in
      then_good c (option_to_list r ++ ts) us (leave r ops (exec c.module_ go body [] s')) (exec c.module_ go rest)
      (leave_good c r ops ts (exec c.module_ go body [] s') (exec_good body (inside r c) [] (option_to_list r) [] s' known gg t.0 tt l) h)
      (λ ops' s'' h' l'. exec_good rest c (option_to_list r ++ ts) us ops' s'' known gg t.1 h' l'))
  exec_good (loop r body rest) c ts us ops s known gg t h l =
      executed_good c us s (λ s. then_do (leave r ops (turns (suc s.left) (exec c.module_ go body []) s)) (exec c.module_ go rest)) (λ k after.
      let s' : State = record s { left = k; meter = after } in
      then_good c (option_to_list r ++ ts) us (leave r ops (turns (suc k) (exec c.module_ go body []) s')) (exec c.module_ go rest)
      (turns_good (suc k) c r ops ts (exec c.module_ go body []) h (λ s'' l'. exec_good body (inside None c) [] (option_to_list r) [] s'' known gg t.0 tt l') s' l)
      (λ ops' s'' h' l'. exec_good rest c (option_to_list r ++ ts) us ops' s'' known gg t.1 h' l'))
  exec_good (choose r ys ns rest) c ts us ops s known gg t h l =
      executed_good c us s (λ s. pop Stuck I32 ops (λ n ops. then_do (leave r ops (at_zero n (exec c.module_ go ns [] s) (exec c.module_ go ys [] s))) (exec c.module_ go rest))) (λ k after.
      let s' : State = record s { left = k; meter = after } in
      pop_is (Good c us) Stuck I32 ops (λ n ops. then_do (leave r ops (at_zero n (exec c.module_ go ns [] s') (exec c.module_ go ys [] s'))) (exec c.module_ go rest)) t.0 (subst (HasTypes ops) t.1 h) (λ n ops' h'.
      then_good c (option_to_list r ++ t.0) us (leave r ops' (at_zero n (exec c.module_ go ns [] s') (exec c.module_ go ys [] s'))) (exec c.module_ go rest)
      (leave_good c r ops' t.0 (at_zero n (exec c.module_ go ns [] s') (exec c.module_ go ys [] s'))
      (either_good (inside r c) (option_to_list r) n (exec c.module_ go ns [] s') (exec c.module_ go ys [] s') (exec_good ns (inside r c) [] (option_to_list r) [] s' known gg t.3 tt l) (exec_good ys (inside r c) [] (option_to_list r) [] s' known gg t.2 tt l)) h')
      (λ ops'' s'' h'' l''. exec_good rest c (option_to_list r ++ t.0) us ops'' s'' known gg t.4 h'' l'')))
