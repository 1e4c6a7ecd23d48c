-- Each move of the machine makes it lighter, so it halts.
use Rattle.std.proofs.Common.{◌≡◌, ℕ, zero, suc, ◌+◌, ◌-◌, ◌*◌, ◌<◌, ◌≤◌, Bool, true, false, List, [], ◌∷◌, length, map, Option, Some, None, refl, ap, subst, arith}
use Rattle.std.specs.Prelude.{slice_get, nat_lt, min}
use borrow.Author.Tests.{ltb-true}
use Rattle.std.proofs.lemmas.Option.{slice_get_within}
use Rattle.budget_meter.specs.Meter.{Meter, used_after}
use Rattle.budget_meter.specs.declared.kind.Kind.TheVariants.{WasmInsnExec, MemAlloc}
use Rattle.wasm_spec.specs.declared.types.ValueType.TheVariants.{I32}
use Rattle.wasm_spec.specs.declared.types.FuncType.{FuncType}
use Rattle.wasm_spec.specs.declared.values.Value.{Value}
use Rattle.wasm_spec.specs.declared.values.Value.TheVariants as value
use Rattle.wasm_spec.specs.declared.module.Function.{Function}
use Rattle.wasm_spec.specs.declared.module.Module.{Module}
use Rattle.wasm_spec.specs.Typing.{function_type, result_of}
use Rattle.wasm_spec.specs.Stores.{number_of, pop}
use Rattle.wasm_spec.specs.Effects.{Effect, Leaves, Grows, Faults, Lacks, effect_of}
use Rattle.wasm_spec.specs.Runs.{State, has_room, charged_if, counted}
use Rattle.wasm_spec.specs.Meaning.{at_zero, same_function_type, arguments, is_import}
use Rattle.wasm_code.specs.declared.step.Step.{Step}
use Rattle.wasm_code.specs.declared.step.Step.TheVariants as step
use Rattle.wasm_code.specs.declared.step.Target.{Target}
use Rattle.wasm_code.specs.declared.step.FlatCode.{FlatCode}
use Rattle.wasm_machine.specs.Machine.{Frame, Machine, Moved, Goes, Ends, Traps, RunsOut, Fails, Asks, pays, on_with, affects, cut, goes_to, jumps, jumps_by, skips, room_of, taking, enters, calls_own, asks, calls, calls_if, calls_typed, calls_element, calls_indirect, asks_from_outside, returns, is_free, passes, executes, moves_if, moves, move}

-- what is left to do, at most
abbrev pub weight : FlatCode → Machine → ℕ
weight flat m = (m.state.left * 2 + length m.frames) * (length flat.steps + 1) + (length flat.steps - m.pc)

-- a move with k instructions left, and at most one more frame than f
abbrev Within : ℕ → ℕ → Moved → Type 0
Within k f (Goes o) = (o.state.left ≡ k) × (length o.frames ≤ f + 1)
Within k f (Ends ops meter) = Unit {0}
Within k f (Traps kind meter) = Unit {0}
Within k f (RunsOut meter) = Unit {0}
Within k f Fails = Unit {0}
Within k f (Asks g args r o) = (o.state.left ≡ k) × (length o.frames ≤ f + 1)

Lighter : FlatCode → Machine → Moved → Type 0
Lighter flat m (Goes o) = weight flat o < weight flat m
Lighter flat m (Ends ops meter) = Unit {0}
Lighter flat m (Traps kind meter) = Unit {0}
Lighter flat m (RunsOut meter) = Unit {0}
Lighter flat m Fails = Unit {0}
Lighter flat m (Asks g args r o) = weight flat o < weight flat m

lighter_by : (a d n x y : ℕ) → x ≤ n → a * (n + 1) + x < (a + 1 + d) * (n + 1) + y
lighter_by a d n x y h = omega arith

lighter_when : (a b n x y : ℕ) → a < b → x ≤ n → a * (n + 1) + x < b * (n + 1) + y
lighter_when a b n x y lt h =
    let e : a + 1 + (b - (a + 1)) ≡ b = omega arith in
    subst (λ c. a * (n + 1) + x < c * (n + 1) + y) e (lighter_by a (b - (a + 1)) n x y h)

paid_lighter : (flat : FlatCode) (m : Machine) (k : ℕ) (o : Moved) → m.state.left ≡ suc k → Within k (length m.frames) o → Lighter flat m o
unfolding Lighter
paid_lighter flat m k (Goes o) e w =
    lighter_when (o.state.left * 2 + length o.frames) (m.state.left * 2 + length m.frames) (length flat.steps) (length flat.steps - o.pc) (length flat.steps - m.pc) (omega (arith, w.0, w.1)) (omega arith)
paid_lighter flat m k (Ends ops meter) e w = tt
paid_lighter flat m k (Traps kind meter) e w = tt
paid_lighter flat m k (RunsOut meter) e w = tt
paid_lighter flat m k Fails e w = tt
paid_lighter flat m k (Asks f args r o) e w =
    lighter_when (o.state.left * 2 + length o.frames) (m.state.left * 2 + length m.frames) (length flat.steps) (length flat.steps - o.pc) (length flat.steps - m.pc) (omega (arith, w.0, w.1)) (omega arith)

charge_lighter : (flat : FlatCode) (m : Machine) (k : ℕ) (b : Bool) (after : Meter) (go : Machine → Moved) → m.state.left ≡ suc k → ((n : Machine) → n.state.left ≡ k → n.frames ≡ m.frames → Within k (length m.frames) (go n)) → Lighter flat m (charged_if b RunsOut after (record m.state { left = k }) (λ s. go (record m { state = s })))
unfolding Lighter
charge_lighter flat m k false after go e h = tt
charge_lighter flat m k true after go e h =
    let n : Machine = record m { state = record m.state { left = k; meter = after } } in
    paid_lighter flat m k (go n) e (h n refl refl)

count_lighter : (flat : FlatCode) (m : Machine) (n : ℕ) (go : Machine → Moved) → m.state.left ≡ n → ((o : Machine) → Within o.state.left (length o.frames) (go o)) → Lighter flat m (counted n RunsOut m.state (λ s. go (record m { state = s })))
unfolding Lighter
count_lighter flat m zero go e h = tt
count_lighter flat m (suc k) go e h =
    let used = used_after m.state.meter WasmInsnExec 1 in
    charge_lighter flat m k (has_room m.state.meter.limits used) (record m.state.meter { used = used }) go e
    (λ o l f. subst (λ (x : List Frame). Within k (length x) (go o)) f (subst (λ i. Within i (length o.frames) (go o)) l (h o)))

pays_lighter : (flat : FlatCode) (m : Machine) (go : Machine → Moved) → ((o : Machine) → Within o.state.left (length o.frames) (go o)) → Lighter flat m (pays m go)
pays_lighter flat m go h = count_lighter flat m m.state.left go refl h

charged_within : (b : Bool) (after : Meter) (m : Machine) (go : State → Moved) → Within m.state.left (length m.frames) (go (record m.state { meter = after })) → Within m.state.left (length m.frames) (charged_if b RunsOut after m.state go)
charged_within false after m go h = tt
charged_within true after m go h = h

affects_within : (e : Effect) (m : Machine) → Within m.state.left (length m.frames) (affects e m)
affects_within (Leaves ops locals store) m = (refl, omega arith)
affects_within (Grows bytes ops locals store) m =
    let used = used_after m.state.meter MemAlloc bytes in
    charged_within (has_room m.state.meter.limits used) (record m.state.meter { used = used }) m
    (λ s. Goes (record m { pc = m.pc + 1; operands = ops; state = record s { locals = locals; store = store } })) (refl, omega arith)
affects_within (Faults kind) m = tt
affects_within Lacks m = tt

goes_within : (p : ℕ) (m : Machine) (o : Option (List Value)) → Within m.state.left (length m.frames) (goes_to p m o)
goes_within p m None = tt
goes_within p m (Some ops) = (refl, omega arith)

jumps_within : (t : Option Target) (n : ℕ) (m : Machine) → Within m.state.left (length m.frames) (jumps t n m)
jumps_within None n m = tt
jumps_within (Some t) n m = goes_within t.pc m (cut t.result n m.operands)

row_within : (flat : FlatCode) (o : Option Step) (m : Machine) → Within m.state.left (length m.frames) (jumps_by flat o m)
row_within flat (Some (step.Jump id n)) m = jumps_within (slice_get flat.targets id) n m
row_within flat _ m = tt

pop_within : (k f : ℕ) (ops : List Value) (go : ℕ → List Value → Moved) → ((n : ℕ) (rest : List Value) → Within k f (go n rest)) → Within k f (pop Fails I32 ops go)
pop_within k f [] go h = tt
pop_within k f (value.I32 n ∷ ops) go h = h n ops
pop_within k f (value.I64 n ∷ ops) go h = tt

zero_within : (k f n : ℕ) (a b : Moved) → Within k f a → Within k f b → Within k f (at_zero n a b)
zero_within k f zero a b ha hb = ha
zero_within k f (suc n) a b ha hb = hb

taking_within : (k f : ℕ) (o : Option (List Value × List Value)) (go : List Value → List Value → Moved) → ((args rest : List Value) → Within k f (go args rest)) → Within k f (taking o go)
taking_within k f None go h = tt
taking_within k f (Some a) go h = h a.0 a.1

enters_within : (room : ℕ) (f : Function) (e : ℕ) (args under : List Value) (m : Machine) → Within m.state.left (length m.frames) (enters room f e args under m)
enters_within zero f e args under m = tt
enters_within (suc room) f e args under m = (refl, omega arith)

own_within : (o : Option Function) (e : Option ℕ) (t : FuncType) (m : Machine) → Within m.state.left (length m.frames) (calls_own o e t m)
own_within None e t m = tt
own_within (Some f) None t m = tt
own_within (Some f) (Some e) t m =
    taking_within m.state.left (length m.frames) (arguments (length t.params) [] m.operands) (λ args under. enters (room_of m.frames) f e args under m) (λ args under. enters_within (room_of m.frames) f e args under m)

asks_within : (t : FuncType) (f : ℕ) (m : Machine) → Within m.state.left (length m.frames) (asks t f m)
asks_within t f m = taking_within m.state.left (length m.frames) (arguments (length t.params) [] m.operands) (λ args under. Asks f (map number_of args) (result_of t) (on_with under m)) (λ args under. (refl, omega arith))

calls_within : (source : Module) (flat : FlatCode) (b : Bool) (o : Option FuncType) (f : ℕ) (m : Machine) → Within m.state.left (length m.frames) (calls source flat b o f m)
calls_within source flat b None f m = tt
calls_within source flat true (Some t) f m = asks_within t f m
calls_within source flat false (Some t) f m = own_within (slice_get source.functions (f - length source.imports)) (slice_get flat.entries (f - length source.imports)) t m

if_within : (b : Bool) (source : Module) (flat : FlatCode) (f : ℕ) (m : Machine) → Within m.state.left (length m.frames) (calls_if b source flat f m)
if_within false source flat f m = tt
if_within true source flat f m = calls_within source flat (is_import source f) (function_type source f) f m

typed_within : (source : Module) (flat : FlatCode) (t : FuncType) (o : Option FuncType) (f : ℕ) (m : Machine) → Within m.state.left (length m.frames) (calls_typed source flat t o f m)
typed_within source flat t None f m = tt
typed_within source flat t (Some u) f m = if_within (same_function_type t u) source flat f m

element_within : (source : Module) (flat : FlatCode) (t : FuncType) (o : Option (Option ℕ)) (m : Machine) → Within m.state.left (length m.frames) (calls_element source flat t o m)
element_within source flat t None m = tt
element_within source flat t (Some None) m = tt
element_within source flat t (Some (Some f)) m = typed_within source flat t (function_type source f) f m

indirect_within : (source : Module) (flat : FlatCode) (o : Option FuncType) (n : ℕ) (m : Machine) → Within m.state.left (length m.frames) (calls_indirect source flat o n m)
indirect_within source flat None n m = tt
indirect_within source flat (Some t) n m = element_within source flat t (slice_get m.state.store.table n) m

executes_within : (source : Module) (flat : FlatCode) (i : Step) (m : Machine) → Within m.state.left (length m.frames) (executes source flat i m)
executes_within source flat (step.Plain p) m = affects_within (effect_of p m.operands m.state.locals m.state.store) m
executes_within source flat step.Pass m = (refl, omega arith)
executes_within source flat (step.Unless to) m = pop_within m.state.left (length m.frames) m.operands _ (λ n rest. (refl, omega arith))
executes_within source flat (step.Jump id n) m = jumps_within (slice_get flat.targets id) n m
executes_within source flat (step.JumpIf id n) m =
    pop_within m.state.left (length m.frames) m.operands _ (λ v rest. zero_within m.state.left (length m.frames) v _ _ (refl, omega arith) (jumps_within (slice_get flat.targets id) n (record m { operands = rest })))
executes_within source flat (step.Table count) m =
    pop_within m.state.left (length m.frames) m.operands _ (λ v rest. row_within flat (slice_get flat.steps (m.pc + 1 + min v count)) (record m { operands = rest }))
executes_within source flat (step.Call f) m = calls_within source flat (is_import source f) (function_type source f) f m
executes_within source flat (step.CallIndirect t) m = pop_within m.state.left (length m.frames) m.operands _ (λ v rest. indirect_within source flat (slice_get source.types t) v (record m { operands = rest }))
executes_within source flat _ m = tt

returns_lighter : (flat : FlatCode) (frames : List Frame) (m : Machine) → m.frames ≡ frames → Lighter flat m (returns frames m)
unfolding Lighter
returns_lighter flat [] m e = tt
returns_lighter flat (f ∷ fs) m e =
    lighter_when (m.state.left * 2 + length fs) (m.state.left * 2 + length m.frames) (length flat.steps) (length flat.steps - f.pc) (length flat.steps - m.pc) (omega (arith, ap length e)) (omega arith)

skips_lighter : (flat : FlatCode) (b : Bool) (to : ℕ) (m : Machine) → nat_lt m.pc to ≡ b → m.pc < length flat.steps → Lighter flat m (skips b to m)
unfolding Lighter
skips_lighter flat false to m e w = tt
skips_lighter flat true to m e w =
    let lt = ltb-true m.pc to e in
    let less : length flat.steps - to < length flat.steps - m.pc = omega arith in
    omega (arith, less)

outside_lighter : (flat : FlatCode) (o : Option FuncType) (f : ℕ) (m : Machine) → m.pc < length flat.steps → Lighter flat m (asks_from_outside o f m)
unfolding Lighter
outside_lighter flat None f m w = tt
outside_lighter flat (Some t) f m w = taken (arguments (length t.params) [] m.operands)
  where
    taken : (o : Option (List Value × List Value)) → Lighter flat m (taking o (λ args under. Asks f (map number_of args) (result_of t) (on_with under m)))
    taken None = tt
    taken (Some a) = let less : length flat.steps - (m.pc + 1) < length flat.steps - m.pc = omega arith in omega (arith, less)

passes_lighter : (source : Module) (flat : FlatCode) (i : Step) (m : Machine) → m.pc < length flat.steps → Lighter flat m (passes source i m)
unfolding Lighter
passes_lighter source flat (step.Skip to) m w = skips_lighter flat (nat_lt m.pc to) to m refl w
passes_lighter source flat (step.Import f) m w = outside_lighter flat (function_type source f) f m w
passes_lighter source flat step.End m w = returns_lighter flat m.frames m refl
passes_lighter source flat _ m w = tt

step_lighter : (source : Module) (flat : FlatCode) (b : Bool) (i : Step) (m : Machine) → m.pc < length flat.steps → Lighter flat m (moves_if b source flat i m)
step_lighter source flat true i m w = passes_lighter source flat i m w
step_lighter source flat false i m w = pays_lighter flat m (executes source flat i) (λ o. executes_within source flat i o)

moves_lighter : (source : Module) (flat : FlatCode) (o : Option Step) (m : Machine) → slice_get flat.steps m.pc ≡ o → Lighter flat m (moves source flat o m)
unfolding Lighter
moves_lighter source flat None m e = tt
moves_lighter source flat (Some i) m e = step_lighter source flat (is_free i) i m (slice_get_within flat.steps m.pc i e)

pub move_lighter : (source : Module) (flat : FlatCode) (m o : Machine) → move source flat m ≡ Goes o → weight flat o < weight flat m
unfolding Lighter
move_lighter source flat m o e = subst (Lighter flat m) e (moves_lighter source flat (slice_get flat.steps m.pc) m refl)

pub asks_lighter : (source : Module) (flat : FlatCode) (m o : Machine) (f : ℕ) (args : List ℕ) (r : _) → move source flat m ≡ Asks f args r o → weight flat o < weight flat m
unfolding Lighter
asks_lighter source flat m o f args r e = subst (Lighter flat m) e (moves_lighter source flat (slice_get flat.steps m.pc) m refl)
