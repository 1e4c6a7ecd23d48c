-- The machine does what the meaning of a function's code says, where it does so of calls.
use Rattle.std.proofs.Common.{◌≡◌, ℕ, zero, suc, ◌+◌, ◌-◌, ◌<◌, ◌≤◌, Bool, true, false, List, [], ◌∷◌, ◌++◌, length, Option, Some, None, refl, sym, ap, ◌∙◌, subst, arith, append_assoc, length-append}
use Rattle.std.specs.Prelude.{slice_get, slice_set, nat_le, min, if◌then◌else◌}
use Rattle.std.proofs.lemmas.Bool.{lt-ltb}
use Rattle.budget_meter.specs.Meter.{Meter, used_after}
use Rattle.budget_meter.specs.declared.kind.Kind.TheVariants.{MemAlloc}
use Rattle.wasm_spec.specs.declared.types.ValueType.{ValueType}
use Rattle.wasm_spec.specs.declared.types.ValueType.TheVariants.{I32, I64}
use Rattle.wasm_spec.specs.declared.types.Taken.{Taken}
use Rattle.wasm_spec.specs.declared.types.Taken.TheVariants as operands
use Rattle.wasm_spec.specs.declared.types.FuncType.{FuncType}
use Rattle.wasm_spec.specs.declared.values.Value.{Value}
use Rattle.wasm_spec.specs.declared.values.Value.TheVariants as value
use Rattle.wasm_spec.specs.declared.values.TrapKind.TheVariants.{Unreachable}
use Rattle.wasm_spec.specs.declared.instructions.Numeric.{Numeric}
use Rattle.wasm_spec.specs.declared.instructions.LoadKind.{LoadKind}
use Rattle.wasm_spec.specs.declared.instructions.Plain.{Plain}
use Rattle.wasm_spec.specs.declared.instructions.Plain.TheVariants as op
use Rattle.wasm_spec.specs.declared.instructions.Control.TheVariants as jump
use Rattle.wasm_spec.specs.declared.module.Module.{Module}
use Rattle.wasm_spec.specs.Code.{Code, end, plain, control, block, loop, choose, BlockType}
use Rattle.wasm_spec.specs.Typing.{function_type, result_of, numeric_signature, taken_types}
use Rattle.wasm_spec.specs.Integers.{numeric_result}
use Rattle.wasm_spec.specs.Memory.{loaded, stored}
use Rattle.wasm_spec.specs.Stores.{result_values, pop, Store, pages}
use Rattle.wasm_spec.specs.Effects.{Effect, Leaves, Grows, Faults, Lacks, with_some, gives, numeric_effect, drop_effect, chosen, local_set, local_tee, global_set, loads, stores, grows, effect_of}
use Rattle.wasm_spec.specs.Runs.{State, Run, Normal, Branch, Return, Trap, Spent, Stuck, Ask, has_room, charged_if, effect_run, then_do, leave, turns}
use Rattle.wasm_spec.specs.Meaning.{Calls, at_zero, label_for, same_types, same_function_type, matching_call, typed_call, element_call, indirect_call, control_run, exec}
use Rattle.wasm_spec.proofs.Lemmas.{same_types_are}
use Rattle.std.proofs.lemmas.Bool.{and_parts}
use Rattle.wasm_code.specs.declared.step.Step.TheVariants as step
use Rattle.wasm_code.specs.declared.step.FlatCode.{FlatCode}
use Rattle.wasm_code.specs.Placed.{Label, arity, height_after, height_after_call, Placed}
use Rattle.wasm_machine.specs.Machine.{Frame, Machine, Goes, Traps, RunsOut, Fails, on_with, affects, jumps, jumps_by, skips, calls_at, calls_if, calls_typed, calls_element, calls_indirect, moves, move, resumed}
use Rattle.wasm_machine.specs.Behaves.{Comes, here, more, Stops, StopsToAsk}
use Rattle.wasm_machine.proofs.Sim.{at, Lands, Follows, Nested, EndsWith, base_under, comes_follows, then_follows, skip_follows, leave_follows, leave_ends, turns_follow, charged_follows, step_follows, pop_follows, jump_carries, label_jump, row_label}

-- A plain instruction does the same over other operands, and leaves so many.
abbrev Fits : List Value → ℕ → Effect → Effect → Type 0
Fits under n (Leaves ops locals store) e = (e ≡ Leaves (ops ++ under) locals store) × (length ops + length under ≡ n)
Fits under n (Grows bytes ops locals store) e = (e ≡ Grows bytes (ops ++ under) locals store) × (length ops + length under ≡ n)
Fits under n (Faults kind) e = e ≡ Faults kind
Fits under n Lacks e = Unit {0}

with_some_fits : {A : Type 0} (under : List Value) (n : ℕ) (o : Option A) (f g : A → Effect) → ((x : A) → Fits under n (f x) (g x)) → Fits under n (with_some o f) (with_some o g)
with_some_fits under n None f g h = tt
with_some_fits under n (Some x) f g h = h x

pop_fits : (under : List Value) (n : ℕ) (t : ValueType) (ops : List Value) (f g : ℕ → List Value → Effect) → ((i : ℕ) (rest : List Value) → suc (length rest) ≡ length ops → Fits under n (f i rest) (g i (rest ++ under))) → Fits under n (pop Lacks t ops f) (pop Lacks t (ops ++ under) g)
pop_fits under n t [] f g h = tt
pop_fits under n I32 (value.I32 i ∷ ops) f g h = h i ops refl
pop_fits under n I32 (value.I64 i ∷ ops) f g h = tt
pop_fits under n I64 (value.I32 i ∷ ops) f g h = tt
pop_fits under n I64 (value.I64 i ∷ ops) f g h = h i ops refl

result_length : (r : BlockType) (n : ℕ) → length (result_values r n) ≡ arity r
result_length None n = refl
result_length (Some t) n = refl

if_fits : (under : List Value) (n : ℕ) (b : Bool) (e e' f f' : Effect) → Fits under n e e' → Fits under n f f' → Fits under n (if b then e else f) (if b then e' else f')
if_fits under n true e e' f f' he hf = he
if_fits under n false e e' f f' he hf = hf

module _ (under locals : List Value) (store : Store) where
  gives_fits : (n : ℕ) (o : Numeric) (r : Option ℕ) (ops : List Value) → arity (numeric_signature o).gives + length ops + length under ≡ n → Fits under n (gives o r ops locals store) (gives o r (ops ++ under) locals store)
  gives_fits n o None ops len = refl
  gives_fits n o (Some i) ops len = (
    ap (λ l. Leaves l locals store) (sym (append_assoc (result_values (numeric_signature o).gives i) ops under)),
    omega (arith, len, length-append (result_values (numeric_signature o).gives i) ops, result_length (numeric_signature o).gives i),
  )

  drop_fits : (n : ℕ) (ops : List Value) → length ops + length under ≡ n + 1 → Fits under n (drop_effect ops locals store) (drop_effect (ops ++ under) locals store)
  drop_fits n [] len = tt
  drop_fits n (v ∷ ops) len = (refl, omega arith)

  local_set_fits : (n i : ℕ) (ops : List Value) → length ops + length under ≡ n + 1 → Fits under n (local_set i ops locals store) (local_set i (ops ++ under) locals store)
  local_set_fits n i [] len = tt
  local_set_fits n i (v ∷ ops) len = with_some_fits under n (slice_get locals i) (λ _. Leaves ops (slice_set locals i v) store) (λ _. Leaves (ops ++ under) (slice_set locals i v) store) (λ _. (refl, omega arith))

  local_tee_fits : (n i : ℕ) (ops : List Value) → length ops + length under ≡ n → Fits under n (local_tee i ops locals store) (local_tee i (ops ++ under) locals store)
  local_tee_fits n i [] len = tt
  local_tee_fits n i (v ∷ ops) len = with_some_fits under n (slice_get locals i) (λ _. Leaves (v ∷ ops) (slice_set locals i v) store) (λ _. Leaves (v ∷ (ops ++ under)) (slice_set locals i v) store) (λ _. (refl, omega arith))

  global_set_fits : (n i : ℕ) (ops : List Value) → length ops + length under ≡ n + 1 → Fits under n (global_set i ops locals store) (global_set i (ops ++ under) locals store)
  global_set_fits n i [] len = tt
  global_set_fits n i (v ∷ ops) len =
      with_some_fits under n (slice_get store.globals i) (λ _. Leaves ops locals (record store { globals = slice_set store.globals i v })) (λ _. Leaves (ops ++ under) locals (record store { globals = slice_set store.globals i v })) (λ _. (refl, omega arith))

  loads_fits : (n : ℕ) (l : LoadKind) (o : Option ℕ) (ops : List Value) → suc (length ops) + length under ≡ n → Fits under n (loads l o ops locals store) (loads l o (ops ++ under) locals store)
  loads_fits n l None ops len = refl
  loads_fits n l (Some i) ops len = (refl, len)

  stores_fits : (n : ℕ) (o : Option (List ℕ)) (ops : List Value) → length ops + length under ≡ n → Fits under n (stores o ops locals store) (stores o (ops ++ under) locals store)
  stores_fits n None ops len = refl
  stores_fits n (Some bytes) ops len = (refl, len)

  grows_fits : (n i : ℕ) (ops : List Value) → suc (length ops) + length under ≡ n → Fits under n (grows i ops locals store) (grows i (ops ++ under) locals store)
  grows_fits n i ops len = if_fits under n (nat_le (pages store.memory + i) store.memory.most_pages) _ _ _ _ (refl, len) (refl, len)

  -- operands beyond those under the block: as many of them at least as the plain instruction takes
  effect_fits : (p : Plain) (ops base : List Value) (h : ℕ) → length base ≤ length under → length ops + length under ≡ length base + h → Fits under (length base + height_after p h) (effect_of p ops locals store) (effect_of p (ops ++ under) locals store)
  effect_fits op.Nop ops base h le len = (refl, omega arith)
  effect_fits op.Drop [] base h le len = tt
  effect_fits op.Drop (v ∷ ops) base h le len = drop_fits _ (v ∷ ops) (omega arith)
  effect_fits op.Select ops base h le len =
      pop_fits under _ I32 ops (λ n ops. chosen n ops locals store) (λ n ops. chosen n ops locals store) (λ n rest e. select_fits n rest e)
    where
      select_fits : (n : ℕ) (rest : List Value) → suc (length rest) ≡ length ops → Fits under (length base + height_after op.Select h) (chosen n rest locals store) (chosen n (rest ++ under) locals store)
      select_fits n [] e = tt
      select_fits n (v ∷ []) e = tt
      select_fits n (v ∷ w ∷ rest) e = (refl, omega arith)
  effect_fits (op.LocalGet i) ops base h le len = with_some_fits under _ (slice_get locals i) (λ v. Leaves (v ∷ ops) locals store) (λ v. Leaves (v ∷ (ops ++ under)) locals store) (λ v. (refl, omega arith))
  effect_fits (op.LocalSet i) [] base h le len = tt
  effect_fits (op.LocalSet i) (v ∷ ops) base h le len = local_set_fits _ i (v ∷ ops) (omega arith)
  effect_fits (op.LocalTee i) [] base h le len = tt
  effect_fits (op.LocalTee i) (v ∷ ops) base h le len = local_tee_fits _ i (v ∷ ops) (omega arith)
  effect_fits (op.GlobalGet i) ops base h le len = with_some_fits under _ (slice_get store.globals i) (λ v. Leaves (v ∷ ops) locals store) (λ v. Leaves (v ∷ (ops ++ under)) locals store) (λ v. (refl, omega arith))
  effect_fits (op.GlobalSet i) [] base h le len = tt
  effect_fits (op.GlobalSet i) (v ∷ ops) base h le len = global_set_fits _ i (v ∷ ops) (omega arith)
  effect_fits (op.Load l a) ops base h le len =
      pop_fits under _ I32 ops (λ n ops. loads l (loaded store.memory.bytes l n a.offset) ops locals store) (λ n ops. loads l (loaded store.memory.bytes l n a.offset) ops locals store)
      (λ n rest e. loads_fits _ l (loaded store.memory.bytes l n a.offset) rest (omega arith))
  effect_fits (op.Store s a) ops base h le len =
      pop_fits under _ _ ops (λ n ops. pop Lacks I32 ops (λ i ops. stores (stored store.memory.bytes s i a.offset n) ops locals store)) (λ n ops. pop Lacks I32 ops (λ i ops. stores (stored store.memory.bytes s i a.offset n) ops locals store)) (λ n rest e.
      pop_fits under _ I32 rest (λ i ops. stores (stored store.memory.bytes s i a.offset n) ops locals store) (λ i ops. stores (stored store.memory.bytes s i a.offset n) ops locals store)
      (λ i rest' e'. stores_fits _ (stored store.memory.bytes s i a.offset n) rest' (omega arith)))
  effect_fits op.MemorySize ops base h le len = (refl, omega arith)
  effect_fits op.MemoryGrow ops base h le len =
      pop_fits under _ I32 ops (λ n ops. grows n ops locals store) (λ n ops. grows n ops locals store) (λ n rest e. grows_fits _ n rest (omega arith))
  effect_fits (op.I32Const n) ops base h le len = (refl, omega arith)
  effect_fits (op.I64Const n) ops base h le len = (refl, omega arith)
  effect_fits (op.Numeric o) ops base h le len = by_count (numeric_signature o).takes refl
    where
      by_count : (k : Taken) → (numeric_signature o).takes ≡ k → Fits under (length base + (h - length (taken_types (numeric_signature o).takes) + arity (numeric_signature o).gives)) (numeric_effect o (numeric_signature o).takes ops locals store) (numeric_effect o (numeric_signature o).takes (ops ++ under) locals store)
      by_count k e =
          let P : Taken → Type 0 = λ x. Fits under (length base + (h - length (taken_types x) + arity (numeric_signature o).gives)) (numeric_effect o x ops locals store) (numeric_effect o x (ops ++ under) locals store) in
          subst P (sym e) (for_count k)
        where
          for_count : (x : Taken) → Fits under (length base + (h - length (taken_types x) + arity (numeric_signature o).gives)) (numeric_effect o x ops locals store) (numeric_effect o x (ops ++ under) locals store)
          for_count operands.None = tt
          for_count (operands.One t) =
              pop_fits under _ t ops (λ i ops. gives o (numeric_result o i 0) ops locals store) (λ i ops. gives o (numeric_result o i 0) ops locals store)
              (λ i rest g. gives_fits _ o (numeric_result o i 0) rest (omega (arith, len, g, le)))
          for_count (operands.Two t u) =
              pop_fits under _ t ops (λ j ops. pop Lacks u ops (λ i ops. gives o (numeric_result o i j) ops locals store)) (λ j ops. pop Lacks u ops (λ i ops. gives o (numeric_result o i j) ops locals store)) (λ j rest g.
              pop_fits under _ u rest (λ i ops. gives o (numeric_result o i j) ops locals store) (λ i ops. gives o (numeric_result o i j) ops locals store)
              (λ i rest' g'. gives_fits _ o (numeric_result o i j) rest' (omega (arith, len, g, g', le))))

-- how many operands an instruction leaves
effect_ends : (under : List Value) (n : ℕ) (e e' : Effect) (s : State) → Fits under n e e' → EndsWith (λ k. k + length under ≡ n) (effect_run e s)
effect_ends under n (Leaves ops locals store) e' s h = h.1
effect_ends under n (Grows bytes ops locals store) e' s h = by_room (has_room s.meter.limits (used_after s.meter MemAlloc bytes))
  where
    by_room : (b : Bool) → EndsWith (λ k. k + length under ≡ n) (charged_if b Spent (record s.meter { used = used_after s.meter MemAlloc bytes }) s (λ s. Normal ops (record s { locals = locals; store = store })))
    by_room true = h.1
    by_room false = tt
effect_ends under n (Faults kind) e' s h = tt
effect_ends under n Lacks e' s h = tt

-- calls

-- The machine does what a call does, up to the step behind it.
abbrev pub Returns : Module → FlatCode → List Frame → ℕ → Machine → ℕ → List Value → Run → Type 0
Returns source flat frames B m q under (Normal ops s) = (s.left ≤ B) × Comes source flat m (at q (ops ++ under) s frames)
Returns source flat frames B m q under (Branch k ops s) = ⊥
Returns source flat frames B m q under (Return ops s) = ⊥
Returns source flat frames B m q under (Trap kind meter) = Stops source flat m (Traps kind meter)
Returns source flat frames B m q under (Spent meter) = Stops source flat m (RunsOut meter)
Returns source flat frames B m q under Stuck = Unit {0}
Returns source flat frames B m q under (Ask f args memory meter on) =
    (r : BlockType) × (n : Machine) × StopsToAsk source flat m f args memory meter r n
    × ((v : ℕ) (bytes : List ℕ) (b : Meter) → Returns source flat frames B (resumed r v bytes b n) q under (on v bytes b))

-- how many operands a call leaves of n
abbrev pub AfterCall : Option FuncType → ℕ → ℕ → Type 0
AfterCall None n n' = ⊥
AfterCall (Some t) n n' = (length t.params ≤ n) × (n' + length t.params ≡ n + arity (result_of t))

after_call_height : (o : Option FuncType) (n n' u b h : ℕ) → AfterCall o n n' → b ≤ u → n + u ≡ b + h → n' + u ≡ b + height_after_call o h
after_call_height None n n' u b h a le len = absurd a
after_call_height (Some t) n n' u b h a le len = omega arith

abbrev pub CallsFollow : Module → FlatCode → Calls → List Frame → Type 0
CallsFollow source flat go frames =
    (f p : ℕ) (ops under : List Value) (s : State) (m : Machine) → move source flat m ≡ calls_at source flat f (at p (ops ++ under) s frames)
    → Returns source flat frames s.left m (p + 1) under (go f ops s)

abbrev pub CallsEnd : Module → Calls → Type 0
CallsEnd source go = (f : ℕ) (ops : List Value) (s : State) → EndsWith (AfterCall (function_type source f) (length ops)) (go f ops s)

-- the call of an element of the table

module _ (source : Module) (flat : FlatCode) (go : Calls) (go_ends : CallsEnd source go) where
  matching_ends : (b : Bool) (t u : FuncType) (f : ℕ) (ops : List Value) (s : State) → same_function_type t u ≡ b → function_type source f ≡ Some u → EndsWith (AfterCall (Some t) (length ops)) (matching_call b go f ops s)
  matching_ends false t u f ops s e q = tt
  matching_ends true t u f ops s e q =
      let p = and_parts (same_types t.params u.params) (same_types t.results u.results) e in
      let hp = same_types_are t.params u.params p.0 in
      let hr = same_types_are t.results u.results p.1 in
      let P : List ValueType → List ValueType → Type 0 = λ x y. EndsWith (λ n. (length x ≤ length ops) × (n + length x ≡ length ops + arity (slice_get y 0))) (go f ops s) in
      subst (λ x. P x t.results) (sym hp) (subst (λ y. P u.params y) (sym hr) (subst (λ o. EndsWith (AfterCall o (length ops)) (go f ops s)) q (go_ends f ops s)))

  typed_ends : (t : FuncType) (o : Option FuncType) (f : ℕ) (ops : List Value) (s : State) → function_type source f ≡ o → EndsWith (AfterCall (Some t) (length ops)) (typed_call go t o f ops s)
  typed_ends t None f ops s e = tt
  typed_ends t (Some u) f ops s e = matching_ends (same_function_type t u) t u f ops s refl e

  element_ends : (t : FuncType) (o : Option (Option ℕ)) (ops : List Value) (s : State) → EndsWith (AfterCall (Some t) (length ops)) (element_call source go t o ops s)
  element_ends t None ops s = tt
  element_ends t (Some None) ops s = tt
  element_ends t (Some (Some f)) ops s = typed_ends t (function_type source f) f ops s refl

  indirect_ends : (o : Option FuncType) (n : ℕ) (ops : List Value) (s : State) → EndsWith (AfterCall o (length ops)) (indirect_call source go o n ops s)
  indirect_ends None n ops s = tt
  indirect_ends (Some t) n ops s = element_ends t (slice_get s.store.table n) ops s

module _ (source : Module) (flat : FlatCode) (go : Calls) (frames : List Frame) (go_follows : CallsFollow source flat go frames) where
  matching_returns : (b : Bool) (p f : ℕ) (ops under : List Value) (s : State) (m : Machine) → move source flat m ≡ calls_if b source flat f (at p (ops ++ under) s frames) → Returns source flat frames s.left m (p + 1) under (matching_call b go f ops s)
  matching_returns false p f ops under s m mv = (m, here, mv)
  matching_returns true p f ops under s m mv = go_follows f p ops under s m mv

  typed_returns : (t : FuncType) (o : Option FuncType) (p f : ℕ) (ops under : List Value) (s : State) (m : Machine) → move source flat m ≡ calls_typed source flat t o f (at p (ops ++ under) s frames) → Returns source flat frames s.left m (p + 1) under (typed_call go t o f ops s)
  typed_returns t None p f ops under s m mv = tt
  typed_returns t (Some u) p f ops under s m mv = matching_returns (same_function_type t u) p f ops under s m mv

  element_returns : (t : FuncType) (o : Option (Option ℕ)) (p : ℕ) (ops under : List Value) (s : State) (m : Machine) → move source flat m ≡ calls_element source flat t o (at p (ops ++ under) s frames) → Returns source flat frames s.left m (p + 1) under (element_call source go t o ops s)
  element_returns t None p ops under s m mv = (m, here, mv)
  element_returns t (Some None) p ops under s m mv = (m, here, mv)
  element_returns t (Some (Some f)) p ops under s m mv = typed_returns t (function_type source f) p f ops under s m mv

  indirect_returns : (o : Option FuncType) (n p : ℕ) (ops under : List Value) (s : State) (m : Machine) → move source flat m ≡ calls_indirect source flat o n (at p (ops ++ under) s frames) → Returns source flat frames s.left m (p + 1) under (indirect_call source go o n ops s)
  indirect_returns None n p ops under s m mv = tt
  indirect_returns (Some t) n p ops under s m mv = element_returns t (slice_get s.store.table n) p ops under s m mv

-- code

nested_base : (base under : List Value) (ls : List Label) (us : List (List Value)) → Nested base under ls us → (seg : List Value) × (under ≡ seg ++ base)
nested_base base under [] [] h = h
nested_base base under [] (u ∷ us) h = absurd h
nested_base base under (l ∷ ls) [] h = absurd h
nested_base base under (l ∷ ls) (u ∷ us) h =
    let b = nested_base base u ls us h.3 in
    (h.0 ++ b.0, h.1 ∙ ap (λ x. h.0 ++ x) b.1 ∙ sym (append_assoc h.0 b.0 base))

-- more operands under the next block
nested_more : (base ops under : List Value) (ls : List Label) (us : List (List Value)) → Nested base under ls us → Nested base (ops ++ under) ls us
nested_more base ops under [] [] h = (ops ++ h.0, ap (λ x. ops ++ x) h.1 ∙ sym (append_assoc ops h.0 base))
nested_more base ops under [] (u ∷ us) h = absurd h
nested_more base ops under (l ∷ ls) [] h = absurd h
nested_more base ops under (l ∷ ls) (u ∷ us) h = (ops ++ h.0, ap (λ x. ops ++ x) h.1 ∙ sym (append_assoc ops h.0 u), h.2, h.3)

-- what a popped number leaves
pop_ends : (P : ℕ → Type 0) (t : ValueType) (ops : List Value) (go : ℕ → List Value → Run) → ((n : ℕ) (rest : List Value) → suc (length rest) ≡ length ops → EndsWith P (go n rest)) → EndsWith P (pop Stuck t ops go)
pop_ends P t [] go h = tt
pop_ends P I32 (value.I32 n ∷ ops) go h = h n ops refl
pop_ends P I32 (value.I64 n ∷ ops) go h = tt
pop_ends P I64 (value.I32 n ∷ ops) go h = tt
pop_ends P I64 (value.I64 n ∷ ops) go h = h n ops refl

at_zero_ends : (P : ℕ → Type 0) (n k : ℕ) (ops : List Value) (s : State) → P (length ops) → EndsWith P (at_zero n (Normal ops s) (Branch k ops s))
at_zero_ends P zero k ops s h = h
at_zero_ends P (suc n) k ops s h = tt

pub ends_weaker : (P Q : ℕ → Type 0) (run : Run) → ((n : ℕ) → P n → Q n) → EndsWith P run → EndsWith Q run
ends_weaker P Q (Normal ops s) w h = w (length ops) h
ends_weaker P Q (Branch k ops s) w h = tt
ends_weaker P Q (Return ops s) w h = tt
ends_weaker P Q (Trap kind meter) w h = tt
ends_weaker P Q (Spent meter) w h = tt
ends_weaker P Q Stuck w h = tt
ends_weaker P Q (Ask f args memory meter on) w h = λ v bytes b. ends_weaker P Q (on v bytes b) w (h v bytes b)

module _ (source : Module) (flat : FlatCode) (home : Label) (base : List Value) (frames : List Frame) where
  returns_follow : (B C : ℕ) (m : Machine) (q : ℕ) (under : List Value) (ls : List Label) (us : List (List Value)) (r : Run) → B ≤ C → Returns source flat frames B m q under r → Follows source flat home base frames C m q under ls us r
  returns_follow B C m q under ls us (Normal ops s) le h = (omega (arith, h.0), h.1)
  returns_follow B C m q under ls us (Branch k ops s) le h = absurd h
  returns_follow B C m q under ls us (Return ops s) le h = absurd h
  returns_follow B C m q under ls us (Trap kind meter) le h = h
  returns_follow B C m q under ls us (Spent meter) le h = h
  returns_follow B C m q under ls us Stuck le h = h
  returns_follow B C m q under ls us (Ask f args memory meter on) le h =
      (h.0, h.1, h.2, λ v bytes b. returns_follow B C (resumed h.0 v bytes b h.1) q under ls us (on v bytes b) le (h.3 v bytes b))

  effect_follows : (n p B : ℕ) (all under : List Value) (s : State) (ls : List Label) (us : List (List Value)) (m : Machine) (e e' : Effect) → s.left ≤ B → Fits under n e e' → move source flat m ≡ affects e' (at p all s frames) → Follows source flat home base frames B m (p + 1) under ls us (effect_run e s)
  effect_follows n p B all under s ls us m (Leaves ops locals store) e' le fits mv = (le, more (mv ∙ ap (λ x. affects x (at p all s frames)) fits.0) here)
  effect_follows n p B all under s ls us m (Grows bytes ops locals store) e' le fits mv =
      let used = used_after s.meter MemAlloc bytes in
      charged_follows source flat home base frames (has_room s.meter.limits used) B (p + 1) under ls us m (record s.meter { used = used }) s
      (λ s. Goes (at (p + 1) (ops ++ under) (record s { locals = locals; store = store }) frames)) (λ s. Normal ops (record s { locals = locals; store = store }))
      (mv ∙ ap (λ x. affects x (at p all s frames)) fits.0) (λ g. (le, more g here))
  effect_follows n p B all under s ls us m (Faults kind) e' le fits mv = (m, here, mv ∙ ap (λ x. affects x (at p all s frames)) fits)
  effect_follows n p B all under s ls us m Lacks e' le fits mv = tt

  br_if_follows : (p k v B : ℕ) (ops under : List Value) (ls : List Label) (us : List (List Value)) (m : Machine) (s : State) (d id : ℕ) → s.left < B → move source flat m ≡ at_zero v (Goes (at (p + 1) (ops ++ under) s frames)) (jumps (slice_get flat.targets id) d (at p (ops ++ under) s frames)) → (move source flat m ≡ jumps (slice_get flat.targets id) d (at p (ops ++ under) s frames) → Lands source flat m frames ls us k ops s) → Follows source flat home base frames B m (p + 1) under ls us (at_zero v (Normal ops s) (Branch k ops s))
  br_if_follows p k zero B ops under ls us m s d id lt mv lands = (omega arith, more mv here)
  br_if_follows p k (suc v) B ops under ls us m s d id lt mv lands = (lt, lands mv)

  -- the half of a choice that is taken
  half_follows : (p q other v B : ℕ) (r : BlockType) (ops under : List Value) (ls : List Label) (us : List (List Value)) (m : Machine) (s : State) (ys ns : Run) → s.left ≤ B → move source flat m ≡ Goes (at (at_zero v other (p + 1)) (ops ++ under) s frames) → Follows source flat home base frames s.left (at other (ops ++ under) s frames) q under ls us (leave r ops ns) → Follows source flat home base frames s.left (at (p + 1) (ops ++ under) s frames) q under ls us (leave r ops ys) → Follows source flat home base frames B m q under ls us (leave r ops (at_zero v ns ys))
  half_follows p q other zero B r ops under ls us m s ys ns le mv fn fy = comes_follows source flat home base frames s.left B m (at other (ops ++ under) s frames) q under ls us (leave r ops ns) le (more mv here) fn
  half_follows p q other (suc v) B r ops under ls us m s ys ns le mv fn fy = comes_follows source flat home base frames s.left B m (at (p + 1) (ops ++ under) s frames) q under ls us (leave r ops ys) le (more mv here) fy

module _ (source : Module) (flat : FlatCode) (go : Calls) (go_ends : CallsEnd source go) (home : Label) (base : List Value) (frames : List Frame) (go_follows : CallsFollow source flat go frames) (ground : home.height ≡ 0) where
  -- From the index of the code's first step, the machine behaves as the code's meaning.
  pub sim : (c : Code) (p q h : ℕ) (ls : List Label) (us : List (List Value)) (ops under : List Value) (s : State) → Placed source flat home p c q ls h → Nested base under ls us → length ops + length under ≡ length base + h → Follows source flat home base frames s.left (at p (ops ++ under) s frames) q under ls us (exec source go c ops s)
  sim end p q h ls us ops under s pl nest len =
      (omega arith, subst (λ x. Comes source flat (at p (ops ++ under) s frames) (at x (ops ++ under) s frames)) pl here)
  sim (plain i rest) p q h ls us ops under s pl nest len =
      step_follows source flat home base frames (step.Plain i) (λ m. affects (effect_of i m.operands m.state.locals m.state.store) m) p q (ops ++ under) s under ls us
      (λ s. then_do (effect_run (effect_of i ops s.locals s.store) s) (exec source go rest)) pl.0 (λ m. refl) (λ k after el mv.
      let t : State = record s { left = k; meter = after } in
      let fits = effect_fits under s.locals s.store i ops base h (base_under base under ls us nest) len in
      then_follows source flat home base frames s.left (λ x. x + length under ≡ length base + height_after i h) (at p (ops ++ under) s frames) (p + 1) q under ls us (effect_run (effect_of i ops s.locals s.store) t) (exec source go rest)
      (effect_follows source flat home base frames (length base + height_after i h) p s.left (ops ++ under) under t ls us (at p (ops ++ under) s frames) (effect_of i ops s.locals s.store) (effect_of i (ops ++ under) s.locals s.store) (omega arith) fits mv)
      (effect_ends under (length base + height_after i h) (effect_of i ops s.locals s.store) (effect_of i (ops ++ under) s.locals s.store) t fits)
      (λ ops' s' len'. sim rest (p + 1) q (height_after i h) ls us ops' under s' pl.1 nest len'))
  sim (control jump.Unreachable rest) p q h ls us ops under s pl nest len =
      step_follows source flat home base frames step.Unreachable (λ m. Traps Unreachable m.state.meter) p q (ops ++ under) s under ls us
      (λ s. Trap Unreachable s.meter) pl (λ m. refl) (λ k after el mv. (at p (ops ++ under) s frames, here, mv))
  sim (control (jump.Br d) rest) p q h ls us ops under s pl nest len =
      let j = label_jump source flat frames step.Jump d p h base under ls us nest pl in
      step_follows source flat home base frames (step.Jump j.0 j.1) (jumps (slice_get flat.targets j.0) j.1) p q (ops ++ under) s under ls us
      (λ s. Branch d ops s) j.2 (λ m. refl) (λ k after el mv. (omega arith, j.3 p ops [] (ops ++ under) (at p (ops ++ under) s frames) (record s { left = k; meter = after }) refl (length-append ops under ∙ len) mv))
  sim (control (jump.BrIf d) rest) p q h ls us ops under s pl nest len =
      let j = label_jump source flat frames step.JumpIf d p (h - 1) base under ls us nest pl.0 in
      let le = base_under base under ls us nest in
      step_follows source flat home base frames (step.JumpIf j.0 j.1) (λ m. pop Fails I32 m.operands (λ v ops. at_zero v (Goes (on_with ops m)) (jumps (slice_get flat.targets j.0) j.1 (record m { operands = ops })))) p q (ops ++ under) s under ls us
      (λ s. then_do (control_run source go (jump.BrIf d) ops s) (exec source go rest)) j.2 (λ m. refl) (λ k after el mv.
      let t : State = record s { left = k; meter = after } in
      let m = at p (ops ++ under) s frames in
      let P : ℕ → Type 0 = λ x. x + length under ≡ length base + (h - 1) in
      then_follows source flat home base frames s.left P m (p + 1) q under ls us (control_run source go (jump.BrIf d) ops t) (exec source go rest)
      (pop_follows source flat home base frames s.left (p + 1) I32 ops under ls us m (λ v x. at_zero v (Goes (at (p + 1) x t frames)) (jumps (slice_get flat.targets j.0) j.1 (at p x t frames))) (λ v x. at_zero v (Normal x t) (Branch d x t)) mv
      (λ v x e mv'. br_if_follows source flat home base frames p d v s.left x under ls us m t j.1 j.0 (omega arith) mv'
      (λ g. j.3 p x [] (x ++ under) m t refl (length-append x under ∙ omega arith) g)))
      (pop_ends P I32 ops (λ v x. at_zero v (Normal x t) (Branch d x t)) (λ v x e. at_zero_ends P v d x t (omega arith)))
      (λ ops' s' len'. sim rest (p + 1) q (h - 1) ls us ops' under s' pl.1 nest len'))
  sim (control (jump.BrTable ds d) rest) p q h ls us ops under s pl nest len =
      let le = base_under base under ls us nest in
      step_follows source flat home base frames (step.Table (length ds)) (λ m. pop Fails I32 m.operands (λ v ops. jumps_by flat (slice_get flat.steps (m.pc + 1 + min v (length ds))) (record m { operands = ops }))) p q (ops ++ under) s under ls us
      (λ s. then_do (control_run source go (jump.BrTable ds d) ops s) (exec source go rest)) pl.0 (λ m. refl) (λ k after el mv.
      let t : State = record s { left = k; meter = after } in
      let m = at p (ops ++ under) s frames in
      then_follows source flat home base frames s.left (λ x. ⊥) m (p + 1) q under ls us (control_run source go (jump.BrTable ds d) ops t) (exec source go rest)
      (pop_follows source flat home base frames s.left (p + 1) I32 ops under ls us m (λ v x. jumps_by flat (slice_get flat.steps (p + 1 + min v (length ds))) (at p x t frames)) (λ v x. Branch (label_for ds d v) x t) mv
      (λ v x e mv'.
      let j = label_jump source flat frames step.Jump (label_for ds d v) (p + 1 + min v (length ds)) (h - 1) base under ls us nest (row_label source flat frames ds d v (p + 1) (h - 1) ls pl.1) in
      (omega arith, j.3 p x [] (x ++ under) m t refl (length-append x under ∙ omega arith) (mv' ∙ ap (λ o. jumps_by flat o (at p (x ++ under) t frames)) j.2))))
      (pop_ends (λ x. ⊥) I32 ops (λ v x. Branch (label_for ds d v) x t) (λ v x e. tt))
      (λ ops' s' no. absurd no))
  sim (control jump.Return rest) p q h ls us ops under s pl nest len =
      let b = nested_base base under ls us nest in
      let e : ops ++ under ≡ ops ++ (b.0 ++ base) = ap (λ x. ops ++ x) b.1 in
      step_follows source flat home base frames (step.Jump pl.0 (h - home.height - arity home.result)) (jumps (slice_get flat.targets pl.0) (h - home.height - arity home.result)) p q (ops ++ under) s under ls us
      (λ s. Return ops s) pl.1 (λ m. refl) (λ k after el mv.
      (omega arith, jump_carries source flat frames (at p (ops ++ under) s frames) home pl.0 p h base ops b.0 base (ops ++ under) (record s { left = k; meter = after }) pl.2 e (length-append ops under ∙ len) (omega arith) mv))
  sim (control (jump.Call f) rest) p q h ls us ops under s pl nest len =
      step_follows source flat home base frames (step.Call f) (calls_at source flat f) p q (ops ++ under) s under ls us
      (λ s. then_do (go f ops s) (exec source go rest)) pl.0 (λ m. refl) (λ k after el mv.
      let t : State = record s { left = k; meter = after } in
      let m = at p (ops ++ under) s frames in
      then_follows source flat home base frames s.left (AfterCall (function_type source f) (length ops)) m (p + 1) q under ls us (go f ops t) (exec source go rest)
      (returns_follow source flat home base frames k s.left m (p + 1) under ls us (go f ops t) (omega arith) (go_follows f p ops under t m mv))
      (go_ends f ops t)
      (λ ops' s' a. sim rest (p + 1) q (height_after_call (function_type source f) h) ls us ops' under s' pl.1 nest
      (after_call_height (function_type source f) (length ops) (length ops') (length under) (length base) h a (base_under base under ls us nest) len)))
  sim (control (jump.CallIndirect i) rest) p q h ls us ops under s pl nest len =
      let le = base_under base under ls us nest in
      step_follows source flat home base frames (step.CallIndirect i) (λ m. pop Fails I32 m.operands (λ v ops. calls_indirect source flat (slice_get source.types i) v (record m { operands = ops }))) p q (ops ++ under) s under ls us
      (λ s. then_do (control_run source go (jump.CallIndirect i) ops s) (exec source go rest)) pl.0 (λ m. refl) (λ k after el mv.
      let t : State = record s { left = k; meter = after } in
      let m = at p (ops ++ under) s frames in
      let P : ℕ → Type 0 = λ x. x + length under ≡ length base + height_after_call (slice_get source.types i) (h - 1) in
      then_follows source flat home base frames s.left P m (p + 1) q under ls us (control_run source go (jump.CallIndirect i) ops t) (exec source go rest)
      (pop_follows source flat home base frames s.left (p + 1) I32 ops under ls us m (λ v x. calls_indirect source flat (slice_get source.types i) v (at p x t frames)) (λ v x. indirect_call source go (slice_get source.types i) v x t) mv
      (λ v x e mv'. returns_follow source flat home base frames k s.left m (p + 1) under ls us (indirect_call source go (slice_get source.types i) v x t) (omega arith)
      (indirect_returns source flat go frames go_follows (slice_get source.types i) v p x under t m mv')))
      (pop_ends P I32 ops (λ v x. indirect_call source go (slice_get source.types i) v x t) (λ v x e.
      ends_weaker (AfterCall (slice_get source.types i) (length x)) P (indirect_call source go (slice_get source.types i) v x t)
      (λ n a. after_call_height (slice_get source.types i) (length x) n (length under) (length base) (h - 1) a le (omega arith))
      (indirect_ends source flat go go_ends (slice_get source.types i) v x t)))
      (λ ops' s' len'. sim rest (p + 1) q (height_after_call (slice_get source.types i) (h - 1)) ls us ops' under s' pl.1 nest len'))
  sim (block r body rest) p q h ls us ops under s pl nest len =
      step_follows source flat home base frames step.Pass (λ m. Goes (on_with m.operands m)) p q (ops ++ under) s under ls us
      (λ s. then_do (leave r ops (exec source go body [] s)) (exec source go rest)) pl.1 (λ m. refl) (λ k after el mv.
      let t : State = record s { left = k; meter = after } in
      let m = at p (ops ++ under) s frames in
      let all : length (ops ++ under) ≡ length base + h = length-append ops under ∙ len in
      let run = exec source go body [] t in
      let l : Label = record { pc = pl.0; result = r; height = h } in
      let inner = sim body (p + 1) pl.0 h (l ∷ ls) ((ops ++ under) ∷ us) [] (ops ++ under) t pl.2 ([], refl, all, nested_more base ops under ls us nest) (omega arith) in
      then_follows source flat home base frames s.left (λ x. x ≡ arity r + length ops) m pl.0 q under ls us (leave r ops run) (exec source go rest)
      (comes_follows source flat home base frames k s.left m (at (p + 1) (ops ++ under) t frames) pl.0 under ls us (leave r ops run) (omega arith) (more mv here) (leave_follows source flat home base frames k (at (p + 1) (ops ++ under) t frames) pl.0 h r ops under ls us run inner))
      (leave_ends r ops run)
      (λ ops' s' e. sim rest pl.0 q (h + arity r) ls us ops' under s' pl.3 nest (omega arith)))
  sim (loop r body rest) p q h ls us ops under s pl nest len =
      step_follows source flat home base frames step.Pass (λ m. Goes (on_with m.operands m)) p q (ops ++ under) s under ls us
      (λ s. then_do (leave r ops (turns (suc s.left) (exec source go body []) s)) (exec source go rest)) pl.1 (λ m. refl) (λ k after el mv.
      let t : State = record s { left = k; meter = after } in
      let m = at p (ops ++ under) s frames in
      let all : length (ops ++ under) ≡ length base + h = length-append ops under ∙ len in
      let run = turns (suc k) (exec source go body []) t in
      let l : Label = record { pc = p + 1; result = None; height = h } in
      let turn = (λ (u : State). sim body (p + 1) pl.0 h (l ∷ ls) ((ops ++ under) ∷ us) [] (ops ++ under) u pl.2 ([], refl, all, nested_more base ops under ls us nest) (omega arith)) in
      then_follows source flat home base frames s.left (λ x. x ≡ arity r + length ops) m pl.0 q under ls us (leave r ops run) (exec source go rest)
      (comes_follows source flat home base frames k s.left m (at (p + 1) (ops ++ under) t frames) pl.0 under ls us (leave r ops run) (omega arith) (more mv here)
      (turns_follow source flat home base frames (suc k) (p + 1) pl.0 h r ops under ls us (exec source go body []) turn t (omega arith)))
      (leave_ends r ops run)
      (λ ops' s' e. sim rest pl.0 q (h + arity r) ls us ops' under s' pl.3 nest (omega arith)))
  sim (choose r ys ns rest) p q h ls us ops under s pl nest len =
      let le = base_under base under ls us nest in
      step_follows source flat home base frames (step.Unless (pl.0 + 1)) (λ m. pop Fails I32 m.operands (λ n ops. Goes (record m { pc = at_zero n (pl.0 + 1) (m.pc + 1); operands = ops }))) p q (ops ++ under) s under ls us
      (λ s. pop Stuck I32 ops (λ n ops. then_do (leave r ops (at_zero n (exec source go ns [] s) (exec source go ys [] s))) (exec source go rest))) pl.2 (λ m. refl) (λ k after el mv.
      let t : State = record s { left = k; meter = after } in
      let m = at p (ops ++ under) s frames in
      let l : Label = record { pc = pl.1; result = r; height = h - 1 } in
      let yes_run = exec source go ys [] t in
      let no_run = exec source go ns [] t in
      let skips = (λ (x : List Value) (u : State). ap (λ o. moves source flat o (at pl.0 x u frames)) pl.4 ∙ ap (λ b. skips b pl.1 (at pl.0 x u frames)) (lt-ltb pl.0 pl.1 pl.5)) in
      pop_follows source flat home base frames s.left q I32 ops under ls us m (λ v x. Goes (at (at_zero v (pl.0 + 1) (p + 1)) x t frames)) (λ v x. then_do (leave r x (at_zero v no_run yes_run)) (exec source go rest)) mv
      (λ v x g mv'.
      let len' : length x + length under ≡ length base + (h - 1) = omega arith in
      let all : length (x ++ under) ≡ length base + (h - 1) = length-append x under ∙ len' in
      let nest' : Nested base (x ++ under) (l ∷ ls) ((x ++ under) ∷ us) = ([], refl, all, nested_more base x under ls us nest) in
      let fy = leave_follows source flat home base frames k (at (p + 1) (x ++ under) t frames) pl.1 (h - 1) r x under ls us yes_run
      (skip_follows source flat home base frames k (at (p + 1) (x ++ under) t frames) pl.0 pl.1 (x ++ under) (l ∷ ls) ((x ++ under) ∷ us) yes_run skips
      (sim ys (p + 1) pl.0 (h - 1) (l ∷ ls) ((x ++ under) ∷ us) [] (x ++ under) t pl.3 nest' (omega arith))) in
      let fn = leave_follows source flat home base frames k (at (pl.0 + 1) (x ++ under) t frames) pl.1 (h - 1) r x under ls us no_run
      (sim ns (pl.0 + 1) pl.1 (h - 1) (l ∷ ls) ((x ++ under) ∷ us) [] (x ++ under) t pl.6 nest' (omega arith)) in
      let run = at_zero v no_run yes_run in
      then_follows source flat home base frames s.left (λ y. y ≡ arity r + length x) m pl.1 q under ls us (leave r x run) (exec source go rest)
      (half_follows source flat home base frames p pl.1 (pl.0 + 1) v s.left r x under ls us m t yes_run no_run (omega arith) mv' fn fy)
      (leave_ends r x run)
      (λ ops' s' e. sim rest pl.1 q (h - 1 + arity r) ls us ops' under s' pl.7 nest (omega arith))))
