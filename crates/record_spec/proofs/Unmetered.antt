-- The runs of the same code under two budgets are the same but for the sums, until one of them has spent its budget.
use Rattle.std.proofs.Common.{ℕ, zero, suc, List, [], ◌∷◌, ◌++◌, Bool, true, false, Option, Some, None}
use Rattle.std.specs.Prelude.{◌-◌, length, map, reverse, slice_get}
use Rattle.budget_meter.specs.declared.kind.Kind.{Kind}
use Rattle.budget_meter.specs.declared.kind.Kind.TheVariants.{WasmInsnExec, MemAlloc}
use Rattle.budget_meter.specs.Meter.{Meter, used_after}
use Rattle.wasm_spec.specs.declared.types.ValueType.{ValueType}
use Rattle.wasm_spec.specs.declared.types.ValueType.TheVariants.{I32, I64}
use Rattle.wasm_spec.specs.declared.types.FuncType.{FuncType}
use Rattle.wasm_spec.specs.declared.values.Value.{Value}
use Rattle.wasm_spec.specs.declared.values.Value.TheVariants as value
use Rattle.wasm_spec.specs.declared.values.TrapKind.{TrapKind}
use Rattle.wasm_spec.specs.declared.values.TrapKind.TheVariants.{Unreachable, OutOfBounds, IndirectType, EmptyElement, CallDepth}
use Rattle.wasm_spec.specs.declared.instructions.Control.{Control}
use Rattle.wasm_spec.specs.declared.instructions.Control.TheVariants as jump
use Rattle.wasm_spec.specs.declared.module.Function.{Function}
use Rattle.wasm_spec.specs.declared.module.Module.{Module}
use Rattle.wasm_spec.specs.Code.{BlockType, Code, end, plain, control, block, loop, choose}
use Rattle.wasm_spec.specs.Typing.{function_type, result_of}
use Rattle.wasm_spec.specs.Stores.{number_of, answered, typed_as, pop, Store, with_bytes}
use Rattle.wasm_spec.specs.Effects.{Effect, Leaves, Grows, Faults, Lacks, effect_of}
use Rattle.wasm_spec.specs.Runs.{State, Run, Normal, Branch, Return, Trap, Spent, Stuck, Ask, has_room, charged_if, charged, counted, executed, effect_run, then_do, carried, whole, onto, leave, again, turns}
use Rattle.wasm_spec.specs.Meaning.{Calls, at_zero, label_for, same_function_type, matching_call, typed_call, element_call, indirect_call, control_run, exec, arguments, with_arguments, back_in, finish, start_locals, enter, too_deep, ask, own_call, is_import, any_call, call_of, MOST_CALLS, beginning, meaning}

abbrev pub with_meter : Meter → State → State
with_meter b s = record s { meter = b }

-- two runs that differ in the sums alone, until one of them is spent
pub data AlikeRuns : Run → Run → Type 0 where
  spent : (a : Meter) (r : Run) → AlikeRuns (Spent a) r
  spends : (r : Run) (b : Meter) → AlikeRuns r (Spent b)
  normal : (ops : List Value) (s : State) (b : Meter) → AlikeRuns (Normal ops s) (Normal ops (with_meter b s))
  branches : (depth : ℕ) (ops : List Value) (s : State) (b : Meter) → AlikeRuns (Branch depth ops s) (Branch depth ops (with_meter b s))
  returns : (ops : List Value) (s : State) (b : Meter) → AlikeRuns (Return ops s) (Return ops (with_meter b s))
  traps : (kind : TrapKind) (a b : Meter) → AlikeRuns (Trap kind a) (Trap kind b)
  stuck : AlikeRuns Stuck Stuck
  asks : (f : ℕ) (args memory : List ℕ) (a b : Meter) (on on' : ℕ → List ℕ → Meter → Run) → ((v : ℕ) (bytes : List ℕ) (c d : Meter) → AlikeRuns (on v bytes c) (on' v bytes d))
      → AlikeRuns (Ask f args memory a on) (Ask f args memory b on')

-- runs from states that differ in the meter alone
abbrev GoesAlike : (State → Run) → (State → Run) → Type 0
GoesAlike go go' = (s : State) (b : Meter) → AlikeRuns (go s) (go' (with_meter b s))

-- ---- charges

if_alike : (p q : Bool) (a b : Meter) (s t : State) (go go' : State → Run) → AlikeRuns (go (with_meter a s)) (go' (with_meter b t)) → AlikeRuns (charged_if p Spent a s go) (charged_if q Spent b t go')
if_alike false q a b s t go go' h = spent s.meter (charged_if q Spent b t go')
if_alike true false a b s t go go' h = spends (go (with_meter a s)) t.meter
if_alike true true a b s t go go' h = h

charged_alike : (kind : Kind) (input : ℕ) (go go' : State → Run) → GoesAlike go go' → GoesAlike (λ s. charged kind input Spent s go) (λ s. charged kind input Spent s go')
charged_alike kind input go go' h s b =
    let a : Meter = record s.meter { used = used_after s.meter kind input } in
    let c : Meter = record b { used = used_after b kind input } in
    if_alike (has_room a.limits a.used) (has_room c.limits c.used) a c s (with_meter b s) go go' (h (with_meter a s) c)

counted_alike : (n : ℕ) (go go' : State → Run) → GoesAlike go go' → GoesAlike (λ s. counted n Spent s go) (λ s. counted n Spent s go')
counted_alike zero go go' h s b = spends (Spent s.meter) b
counted_alike (suc n) go go' h s b = charged_alike WasmInsnExec 1 go go' h (record s { left = n }) b

executed_alike : (go go' : State → Run) → GoesAlike go go' → GoesAlike (λ s. executed Spent s go) (λ s. executed Spent s go')
executed_alike go go' h s b = counted_alike s.left go go' h s b

effect_alike : (e : Effect) → GoesAlike (effect_run e) (effect_run e)
effect_alike (Leaves ops locals store) s b = normal ops (record s { locals = locals; store = store }) b
effect_alike (Grows bytes ops locals store) s b =
    let go : State → Run = λ t. Normal ops (record t { locals = locals; store = store }) in
    charged_alike MemAlloc bytes go go (λ t c. normal ops (record t { locals = locals; store = store }) c) s b
effect_alike (Faults kind) s b = traps kind s.meter b
effect_alike Lacks s b = stuck

-- ---- sequences of runs

then_alike : (go go' : List Value → State → Run) → ((ops : List Value) → GoesAlike (go ops) (go' ops)) → {r r' : Run} → AlikeRuns r r' → AlikeRuns (then_do r go) (then_do r' go')
then_alike go go' h (spent a r) = spent a (then_do r go')
then_alike go go' h (spends r b) = spends (then_do r go) b
then_alike go go' h (normal ops s b) = h ops s b
then_alike go go' h (branches k ops s b) = branches k ops s b
then_alike go go' h (returns ops s b) = returns ops s b
then_alike go go' h (traps kind a b) = traps kind a b
then_alike go go' h stuck = stuck
then_alike go go' h (asks f args memory a b on on' l) = asks f args memory a b _ _ (λ v bytes c d. then_alike go go' h (l v bytes c d))

onto_alike : (under : List Value) (o : Option (List Value)) → GoesAlike (λ s. onto under s o) (λ s. onto under s o)
onto_alike under None s b = stuck
onto_alike under (Some vs) s b = normal (vs ++ under) s b

leave_alike : (t : BlockType) (under : List Value) → {r r' : Run} → AlikeRuns r r' → AlikeRuns (leave t under r) (leave t under r')
leave_alike t under (spent a r) = spent a (leave t under r)
leave_alike t under (spends r b) = spends (leave t under r) b
leave_alike t under (normal ops s b) = onto_alike under (whole t ops) s b
leave_alike t under (branches zero ops s b) = onto_alike under (carried t ops) s b
leave_alike t under (branches (suc k) ops s b) = branches k ops s b
leave_alike t under (returns ops s b) = returns ops s b
leave_alike t under (traps kind a b) = traps kind a b
leave_alike t under stuck = stuck
leave_alike t under (asks f args memory a b on on' l) = asks f args memory a b _ _ (λ v bytes c d. leave_alike t under (l v bytes c d))

again_alike : (go go' : State → Run) → GoesAlike go go' → {r r' : Run} → AlikeRuns r r' → AlikeRuns (again go r) (again go' r')
again_alike go go' h (spent a r) = spent a (again go' r)
again_alike go go' h (spends r b) = spends (again go r) b
again_alike go go' h (normal ops s b) = normal ops s b
again_alike go go' h (branches zero ops s b) = h s b
again_alike go go' h (branches (suc k) ops s b) = branches (suc k) ops s b
again_alike go go' h (returns ops s b) = returns ops s b
again_alike go go' h (traps kind a b) = traps kind a b
again_alike go go' h stuck = stuck
again_alike go go' h (asks f args memory a b on on' l) = asks f args memory a b _ _ (λ v bytes c d. again_alike go go' h (l v bytes c d))

turns_alike : (n : ℕ) (body body' : State → Run) → GoesAlike body body' → GoesAlike (turns n body) (turns n body')
turns_alike zero body body' h s b = spends (Spent s.meter) b
turns_alike (suc n) body body' h s b = again_alike (turns n body) (turns n body') (turns_alike n body body' h) (h s b)

-- ---- code

typed_alike : (t : ValueType) (v : Value) (go go' : ℕ → Run) → ((n : ℕ) → AlikeRuns (go n) (go' n)) → AlikeRuns (typed_as Stuck t v go) (typed_as Stuck t v go')
typed_alike I32 (value.I32 n) go go' h = h n
typed_alike I32 (value.I64 n) go go' h = stuck
typed_alike I64 (value.I32 n) go go' h = stuck
typed_alike I64 (value.I64 n) go go' h = h n

pop_alike : (t : ValueType) (ops : List Value) (go go' : ℕ → List Value → Run) → ((n : ℕ) (ops : List Value) → AlikeRuns (go n ops) (go' n ops)) → AlikeRuns (pop Stuck t ops go) (pop Stuck t ops go')
pop_alike t [] go go' h = stuck
pop_alike t (v ∷ ops) go go' h = typed_alike t v (λ n. go n ops) (λ n. go' n ops) (λ n. h n ops)

zero_alike : (n : ℕ) {r r' q q' : Run} → AlikeRuns r r' → AlikeRuns q q' → AlikeRuns (at_zero n r q) (at_zero n r' q')
zero_alike zero h g = h
zero_alike (suc n) h g = g

abbrev CallsAlike : Calls → Type 0
CallsAlike calls = (f : ℕ) (ops : List Value) → GoesAlike (calls f ops) (calls f ops)

module _ (m : Module) (calls : Calls) (alike : CallsAlike calls) where
  matching_alike : (same : Bool) → CallsAlike (matching_call same calls)
  matching_alike false f ops s b = traps IndirectType s.meter b
  matching_alike true f ops s b = alike f ops s b

  typed_call_alike : (wanted : FuncType) (o : Option FuncType) → CallsAlike (typed_call calls wanted o)
  typed_call_alike wanted None f ops s b = stuck
  typed_call_alike wanted (Some t) f ops s b = matching_alike (same_function_type wanted t) f ops s b

  element_alike : (wanted : FuncType) (o : Option (Option ℕ)) (ops : List Value) → GoesAlike (element_call m calls wanted o ops) (element_call m calls wanted o ops)
  element_alike wanted None ops s b = traps OutOfBounds s.meter b
  element_alike wanted (Some None) ops s b = traps EmptyElement s.meter b
  element_alike wanted (Some (Some f)) ops s b = typed_call_alike wanted (function_type m f) f ops s b

  indirect_alike : (o : Option FuncType) (n : ℕ) (ops : List Value) → GoesAlike (indirect_call m calls o n ops) (indirect_call m calls o n ops)
  indirect_alike None n ops s b = stuck
  indirect_alike (Some wanted) n ops s b = element_alike wanted (slice_get s.store.table n) ops s b

  control_alike : (k : Control) (ops : List Value) → GoesAlike (control_run m calls k ops) (control_run m calls k ops)
  control_alike jump.Unreachable ops s b = traps Unreachable s.meter b
  control_alike (jump.Br l) ops s b = branches l ops s b
  control_alike (jump.BrIf l) ops s b = pop_alike I32 ops _ _ (λ n ops. zero_alike n (normal ops s b) (branches l ops s b))
  control_alike (jump.BrTable ls l) ops s b = pop_alike I32 ops _ _ (λ n ops. branches (label_for ls l n) ops s b)
  control_alike jump.Return ops s b = returns ops s b
  control_alike (jump.Call f) ops s b = alike f ops s b
  control_alike (jump.CallIndirect t) ops s b = pop_alike I32 ops _ _ (λ n ops. indirect_alike (slice_get m.types t) n ops s b)

  exec_alike : (code : Code) (ops : List Value) → GoesAlike (exec m calls code ops) (exec m calls code ops)
  exec_alike end ops s b = normal ops s b
  exec_alike (plain p rest) ops s b =
      executed_alike _ _ (λ t c. then_alike (exec m calls rest) (exec m calls rest) (exec_alike rest) (effect_alike (effect_of p ops t.locals t.store) t c)) s b
  exec_alike (control k rest) ops s b =
      executed_alike _ _ (λ t c. then_alike (exec m calls rest) (exec m calls rest) (exec_alike rest) (control_alike k ops t c)) s b
  exec_alike (block r body rest) ops s b =
      executed_alike _ _ (λ t c. then_alike (exec m calls rest) (exec m calls rest) (exec_alike rest) (leave_alike r ops (exec_alike body [] t c))) s b
  exec_alike (loop r body rest) ops s b =
      executed_alike _ _ (λ t c. then_alike (exec m calls rest) (exec m calls rest) (exec_alike rest)
      (leave_alike r ops (turns_alike (suc t.left) (exec m calls body []) (exec m calls body []) (exec_alike body []) t c))) s b
  exec_alike (choose r taken other rest) ops s b =
      executed_alike _ _ (λ t c. pop_alike I32 ops _ _ (λ n ops. then_alike (exec m calls rest) (exec m calls rest) (exec_alike rest)
      (leave_alike r ops (zero_alike n (exec_alike other [] t c) (exec_alike taken [] t c))))) s b

-- ---- calls

arguments_alike : (o : Option (List Value × List Value)) (go go' : List Value → List Value → Run) → ((args under : List Value) → AlikeRuns (go args under) (go' args under)) → AlikeRuns (with_arguments o go) (with_arguments o go')
arguments_alike None go go' h = stuck
arguments_alike (Some a) go go' h = h a.0 a.1

finish_alike : (t : BlockType) (under : List Value) (caller : State) (e : Meter) → {r r' : Run} → AlikeRuns r r' → AlikeRuns (finish t under caller r) (finish t under (with_meter e caller) r')
finish_alike t under caller e (spent a r) = spent a (finish t under (with_meter e caller) r)
finish_alike t under caller e (spends r b) = spends (finish t under caller r) b
finish_alike t under caller e (normal ops s b) = onto_alike under (whole t ops) (back_in caller s) b
finish_alike t under caller e (branches zero ops s b) = onto_alike under (carried t ops) (back_in caller s) b
finish_alike t under caller e (branches (suc k) ops s b) = stuck
finish_alike t under caller e (returns ops s b) = onto_alike under (carried t ops) (back_in caller s) b
finish_alike t under caller e (traps kind a b) = traps kind a b
finish_alike t under caller e stuck = stuck
finish_alike t under caller e (asks f args memory a b on on' l) = asks f args memory a b _ _ (λ v bytes c d. finish_alike t under caller e (l v bytes c d))

-- what a module does at a call of a function of its own
abbrev Entries : Type 0
Entries = Function → FuncType → List Value → State → Run

abbrev EntriesAlike : Entries → Type 0
EntriesAlike go = (f : Function) (t : FuncType) (ops : List Value) → GoesAlike (go f t ops) (go f t ops)

module _ (m : Module) where
  enter_alike : (calls : Calls) → CallsAlike calls → EntriesAlike (enter m calls)
  enter_alike calls h f t ops s b = arguments_alike (arguments (length t.params) [] ops) _ _ (λ args under.
      finish_alike (result_of t) under s b (exec_alike m calls h f.body [] (record s { locals = start_locals f args }) b))

  deep_alike : EntriesAlike too_deep
  deep_alike f t ops s b = arguments_alike (arguments (length t.params) [] ops) _ _ (λ args under. traps CallDepth s.meter b)

  ask_alike : (t : FuncType) → CallsAlike (ask t)
  ask_alike t f ops s b = arguments_alike (arguments (length t.params) [] ops) _ _ (λ args under.
      asks f (map number_of args) s.store.memory.bytes s.meter b _ _
      (λ v bytes c d. normal (answered (result_of t) v ++ under) (record s { store = with_bytes bytes s.store; meter = c }) d))

  own_alike : (o : Option Function) (go : Entries) → EntriesAlike go → (t : FuncType) (ops : List Value) → GoesAlike (own_call o go t ops) (own_call o go t ops)
  own_alike None go h t ops s b = stuck
  own_alike (Some f) go h t ops s b = h f t ops s b

  any_alike : (go : Entries) → EntriesAlike go → (imported : Bool) (o : Option FuncType) → CallsAlike (any_call m go imported o)
  any_alike go h imported None f ops s b = stuck
  any_alike go h true (Some t) f ops s b = ask_alike t f ops s b
  any_alike go h false (Some t) f ops s b = own_alike (slice_get m.functions (f - length m.imports)) go h t ops s b

  call_alike : (room : ℕ) → CallsAlike (call_of m room)
  call_alike zero f ops s b = any_alike too_deep deep_alike (is_import m f) (function_type m f) f ops s b
  call_alike (suc room) f ops s b = any_alike (enter m (call_of m room)) (enter_alike (call_of m room) (call_alike room)) (is_import m f) (function_type m f) f ops s b

  -- a whole call of a function of the module
  pub meaning_alike : (f : ℕ) (args : List ℕ) (store : Store) (a b : Meter) → AlikeRuns (meaning m f args store a) (meaning m f args store b)
  meaning_alike f args store a b = call_alike MOST_CALLS f (reverse (map value.I64 args)) (beginning store a) b
