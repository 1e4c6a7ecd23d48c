-- No run lowers the sums, with a host that never lowers them.
use Rattle.std.proofs.Common.{◌≡◌, ℕ, zero, suc, ◌-◌, Bool, true, false, List, [], ◌∷◌, ◌++◌, length, map, Option, Some, None, refl, arith}
use Rattle.std.specs.Prelude.{slice_get, reverse}
use Rattle.budget_meter.specs.declared.kind.Kind.{Kind}
use Rattle.budget_meter.specs.declared.kind.Kind.TheVariants.{WasmInsnExec, MemAlloc}
use Rattle.budget_meter.specs.Meter.{Meter, used_after}
use Rattle.wasm_spec.specs.declared.types.ValueType.TheVariants.{I32}
use Rattle.wasm_spec.specs.declared.types.FuncType.{FuncType}
use Rattle.wasm_spec.specs.declared.values.Value.{Value}
use Rattle.wasm_spec.specs.declared.values.Value.TheVariants as value
use Rattle.wasm_spec.specs.declared.values.TrapKind.TheVariants.{CallDepth}
use Rattle.wasm_spec.specs.declared.instructions.Control.{Control}
use Rattle.wasm_spec.specs.declared.instructions.Control.TheVariants as jump
use Rattle.wasm_spec.specs.declared.module.Function.{Function}
use Rattle.wasm_spec.specs.declared.module.Module.{Module}
use Rattle.wasm_spec.specs.Code.{Code, end, plain, control, block, loop, choose, BlockType}
use Rattle.wasm_spec.specs.Typing.{function_type, result_of}
use Rattle.wasm_spec.specs.Stores.{number_of, answered, pop, with_bytes}
use Rattle.wasm_spec.specs.Effects.{Effect, Leaves, Grows, Faults, Lacks, effect_of}
use Rattle.wasm_spec.specs.Runs.{State, Run, Normal, Branch, Return, Trap, Spent, Stuck, Ask, has_room, charged_if, charged, counted, executed, effect_run, then_do, carried, whole, onto, leave, again, turns}
use Rattle.wasm_spec.specs.Meaning.{Calls, at_zero, label_for, same_function_type, matching_call, typed_call, element_call, indirect_call, control_run, exec, arguments, with_arguments, back_in, finish, start_locals, enter, too_deep, ask, own_call, is_import, any_call, call_of, MOST_CALLS, beginning, meaning}
use Rattle.wasm_spec.specs.Worlds.{Reply, Answers, Quits, Host, End, Returned, Trapped, Exhausted, Quit, Broken, after_reply, interp}
use Rattle.wasm_spec.specs.Spending.{IsLater}
use Rattle.wasm_spec.proofs.Spends.{later, same}
use Rattle.wasm_spec.specs.Sums.{IsLaterReply, NeverLowers, QuitsLater, EndsLater, SumsGrow}

-- The sums at each end and call of the run are no lower than those of b. An answer that lowers none leads to such a run again.
abbrev pub Rises : Meter → Run → Type 0
Rises b (Normal ops s) = IsLater b s.meter
Rises b (Branch d ops s) = IsLater b s.meter
Rises b (Return ops s) = IsLater b s.meter
Rises b (Trap kind c) = IsLater b c
Rises b (Spent c) = IsLater b c
Rises b Stuck = Unit {0}
Rises b (Ask f args memory c on) = IsLater b c × ((v : ℕ) (bytes : List ℕ) (d : Meter) → IsLater c d → Rises d (on v bytes d))

since : (a b : Meter) (r : Run) → IsLater a b → Rises b r → Rises a r
since a b (Normal ops s) l h = later a b s.meter l h
since a b (Branch d ops s) l h = later a b s.meter l h
since a b (Return ops s) l h = later a b s.meter l h
since a b (Trap kind c) l h = later a b c l h
since a b (Spent c) l h = later a b c l h
since a b Stuck l h = tt
since a b (Ask f args memory c on) l h = (later a b c l h.0, h.1)

-- one run after another

then_rises : (b : Meter) (r : Run) (go : List Value → State → Run) → Rises b r → ((ops : List Value) (s : State) → Rises s.meter (go ops s)) → Rises b (then_do r go)
then_rises b (Normal ops s) go h next = since b s.meter (go ops s) h (next ops s)
then_rises b (Branch d ops s) go h next = h
then_rises b (Return ops s) go h next = h
then_rises b (Trap kind c) go h next = h
then_rises b (Spent c) go h next = h
then_rises b Stuck go h next = tt
then_rises b (Ask f args memory c on) go h next = (h.0, λ v bytes d l. then_rises d (on v bytes d) go (h.1 v bytes d l) next)

onto_rises : (b : Meter) (under : List Value) (s : State) (o : Option (List Value)) → IsLater b s.meter → Rises b (onto under s o)
onto_rises b under s None h = tt
onto_rises b under s (Some vs) h = h

leave_rises : (b : Meter) (t : BlockType) (under : List Value) (r : Run) → Rises b r → Rises b (leave t under r)
leave_rises b t under (Normal ops s) h = onto_rises b under s (whole t ops) h
leave_rises b t under (Branch zero ops s) h = onto_rises b under s (carried t ops) h
leave_rises b t under (Branch (suc d) ops s) h = h
leave_rises b t under (Return ops s) h = h
leave_rises b t under (Trap kind c) h = h
leave_rises b t under (Spent c) h = h
leave_rises b t under Stuck h = tt
leave_rises b t under (Ask f args memory c on) h = (h.0, λ v bytes d l. leave_rises d t under (on v bytes d) (h.1 v bytes d l))

again_rises : (b : Meter) (go : State → Run) (r : Run) → Rises b r → ((s : State) → Rises s.meter (go s)) → Rises b (again go r)
again_rises b go (Normal ops s) h next = h
again_rises b go (Branch zero ops s) h next = since b s.meter (go s) h (next s)
again_rises b go (Branch (suc d) ops s) h next = h
again_rises b go (Return ops s) h next = h
again_rises b go (Trap kind c) h next = h
again_rises b go (Spent c) h next = h
again_rises b go Stuck h next = tt
again_rises b go (Ask f args memory c on) h next = (h.0, λ v bytes d l. again_rises d go (on v bytes d) (h.1 v bytes d l) next)

turns_rise : (n : ℕ) (body : State → Run) → ((s : State) → Rises s.meter (body s)) → (s : State) → Rises s.meter (turns n body s)
turns_rise zero body h s = same s.meter
turns_rise (suc n) body h s = again_rises s.meter (turns n body) (body s) (h s) (turns_rise n body h)

-- charges

charge_rises : (x : Bool) (after : Meter) (s : State) (go : State → Run) → IsLater s.meter after → ((t : State) → Rises t.meter (go t)) → Rises s.meter (charged_if x Spent after s go)
charge_rises false after s go l next = same s.meter
charge_rises true after s go l next = since s.meter after (go (record s { meter = after })) l (next (record s { meter = after }))

charged_rises : (kind : Kind) (input : ℕ) (s : State) (go : State → Run) → ((t : State) → Rises t.meter (go t)) → Rises s.meter (charged kind input Spent s go)
charged_rises kind input s go next =
    let used = used_after s.meter kind input in
    charge_rises (has_room s.meter.limits used) (record s.meter { used = used }) s go (record { limits = refl; terms = refl; instructions = omega arith; memory = omega arith }) next

counted_rises : (n : ℕ) (s : State) (go : State → Run) → ((t : State) → Rises t.meter (go t)) → Rises s.meter (counted n Spent s go)
counted_rises zero s go next = same s.meter
counted_rises (suc n) s go next = charged_rises WasmInsnExec 1 (record s { left = n }) go next

executed_rises : (s : State) (go : State → Run) → ((t : State) → Rises t.meter (go t)) → Rises s.meter (executed Spent s go)
executed_rises s go next = counted_rises s.left s go next

effect_rises : (e : Effect) (s : State) → Rises s.meter (effect_run e s)
effect_rises (Leaves ops locals store) s = same s.meter
effect_rises (Grows bytes ops locals store) s = charged_rises MemAlloc bytes s (λ s. Normal ops (record s { locals = locals; store = store })) (λ t. same t.meter)
effect_rises (Faults kind) s = same s.meter
effect_rises Lacks s = tt

-- control instructions

pop_rises : (b : Meter) (ops : List Value) (go : ℕ → List Value → Run) → ((n : ℕ) (rest : List Value) → Rises b (go n rest)) → Rises b (pop Stuck I32 ops go)
pop_rises b [] go h = tt
pop_rises b (value.I32 n ∷ ops) go h = h n ops
pop_rises b (value.I64 n ∷ ops) go h = tt

zero_rises : (b : Meter) (n : ℕ) (x y : Run) → Rises b x → Rises b y → Rises b (at_zero n x y)
zero_rises b zero x y h g = h
zero_rises b (suc n) x y h g = g

abbrev CallsRise : Calls → Type 0
CallsRise calls = (f : ℕ) (ops : List Value) (s : State) → Rises s.meter (calls f ops s)

matching_rises : (x : Bool) (calls : Calls) → CallsRise calls → CallsRise (matching_call x calls)
matching_rises false calls h f ops s = same s.meter
matching_rises true calls h f ops s = h f ops s

typed_rises : (calls : Calls) (wanted : FuncType) (o : Option FuncType) → CallsRise calls → CallsRise (typed_call calls wanted o)
typed_rises calls wanted None h f ops s = tt
typed_rises calls wanted (Some u) h f ops s = matching_rises (same_function_type wanted u) calls h f ops s

element_rises : (m : Module) (calls : Calls) (wanted : FuncType) (o : Option (Option ℕ)) (ops : List Value) (s : State) → CallsRise calls → Rises s.meter (element_call m calls wanted o ops s)
element_rises m calls wanted None ops s h = same s.meter
element_rises m calls wanted (Some None) ops s h = same s.meter
element_rises m calls wanted (Some (Some f)) ops s h = typed_rises calls wanted (function_type m f) h f ops s

indirect_rises : (m : Module) (calls : Calls) (o : Option FuncType) (n : ℕ) (ops : List Value) (s : State) → CallsRise calls → Rises s.meter (indirect_call m calls o n ops s)
indirect_rises m calls None n ops s h = tt
indirect_rises m calls (Some wanted) n ops s h = element_rises m calls wanted (slice_get s.store.table n) ops s h

control_rises : (m : Module) (calls : Calls) (c : Control) (ops : List Value) (s : State) → CallsRise calls → Rises s.meter (control_run m calls c ops s)
control_rises m calls jump.Unreachable ops s h = same s.meter
control_rises m calls (jump.Br d) ops s h = same s.meter
control_rises m calls (jump.BrIf d) ops s h =
    pop_rises s.meter ops (λ n ops. at_zero n (Normal ops s) (Branch d ops s)) (λ n ops. zero_rises s.meter n (Normal ops s) (Branch d ops s) (same s.meter) (same s.meter))
control_rises m calls (jump.BrTable ds d) ops s h = pop_rises s.meter ops (λ n ops. Branch (label_for ds d n) ops s) (λ n ops. same s.meter)
control_rises m calls jump.Return ops s h = same s.meter
control_rises m calls (jump.Call f) ops s h = h f ops s
control_rises m calls (jump.CallIndirect i) ops s h =
    let wanted = slice_get m.types i in
    pop_rises s.meter ops (λ n ops. indirect_call m calls wanted n ops s) (λ n ops. indirect_rises m calls wanted n ops s h)

-- code

module _ (m : Module) (calls : Calls) (h : CallsRise calls) where
  exec_rises : (code : Code) (ops : List Value) (s : State) → Rises s.meter (exec m calls code ops s)
  exec_rises end ops s = same s.meter
  exec_rises (plain p rest) ops s =
      executed_rises s (λ u. then_do (effect_run (effect_of p ops u.locals u.store) u) (exec m calls rest))
      (λ u. then_rises u.meter (effect_run (effect_of p ops u.locals u.store) u) (exec m calls rest) (effect_rises (effect_of p ops u.locals u.store) u) (exec_rises rest))
  exec_rises (control c rest) ops s =
      executed_rises s (λ u. then_do (control_run m calls c ops u) (exec m calls rest))
      (λ u. then_rises u.meter (control_run m calls c ops u) (exec m calls rest) (control_rises m calls c ops u h) (exec_rises rest))
  exec_rises (block k body rest) ops s =
      executed_rises s (λ u. then_do (leave k ops (exec m calls body [] u)) (exec m calls rest))
      (λ u. then_rises u.meter (leave k ops (exec m calls body [] u)) (exec m calls rest) (leave_rises u.meter k ops (exec m calls body [] u) (exec_rises body [] u)) (exec_rises rest))
  exec_rises (loop k body rest) ops s =
      executed_rises s (λ u. then_do (leave k ops (turns (suc u.left) (exec m calls body []) u)) (exec m calls rest))
      (λ u. let r = turns (suc u.left) (exec m calls body []) u in
      then_rises u.meter (leave k ops r) (exec m calls rest) (leave_rises u.meter k ops r (turns_rise (suc u.left) (exec m calls body []) (exec_rises body []) u)) (exec_rises rest))
  exec_rises (choose k taken other rest) ops s =
      let go : State → ℕ → List Value → Run = λ u n ops. then_do (leave k ops (at_zero n (exec m calls other [] u) (exec m calls taken [] u))) (exec m calls rest) in
      executed_rises s (λ u. pop Stuck I32 ops (go u))
      (λ u. pop_rises u.meter ops (go u)
      (λ i ops. let r = at_zero i (exec m calls other [] u) (exec m calls taken [] u) in
      then_rises u.meter (leave k ops r) (exec m calls rest)
      (leave_rises u.meter k ops r (zero_rises u.meter i (exec m calls other [] u) (exec m calls taken [] u) (exec_rises other [] u) (exec_rises taken [] u))) (exec_rises rest)))

-- calls

args_rise : (b : Meter) (o : Option (List Value × List Value)) (go : List Value → List Value → Run) → ((args under : List Value) → Rises b (go args under)) → Rises b (with_arguments o go)
args_rise b None go h = tt
args_rise b (Some a) go h = h a.0 a.1

finish_rises : (b : Meter) (t : BlockType) (under : List Value) (caller : State) (r : Run) → Rises b r → Rises b (finish t under caller r)
finish_rises b t under caller (Normal ops s) h = onto_rises b under (back_in caller s) (whole t ops) h
finish_rises b t under caller (Branch zero ops s) h = onto_rises b under (back_in caller s) (carried t ops) h
finish_rises b t under caller (Branch (suc d) ops s) h = tt
finish_rises b t under caller (Return ops s) h = onto_rises b under (back_in caller s) (carried t ops) h
finish_rises b t under caller (Trap kind c) h = h
finish_rises b t under caller (Spent c) h = h
finish_rises b t under caller Stuck h = tt
finish_rises b t under caller (Ask f args memory c on) h = (h.0, λ v bytes d l. finish_rises d t under caller (on v bytes d) (h.1 v bytes d l))

abbrev EntersRise : (Function → FuncType → List Value → State → Run) → Type 0
EntersRise go = (f : Function) (t : FuncType) (ops : List Value) (s : State) → Rises s.meter (go f t ops s)

enter_rises : (m : Module) (calls : Calls) → CallsRise calls → EntersRise (enter m calls)
enter_rises m calls h f t ops s =
    let body : List Value → Run = λ args. exec m calls f.body [] (record s { locals = start_locals f args }) in
    args_rise s.meter (arguments (length t.params) [] ops) (λ args under. finish (result_of t) under s (body args))
    (λ args under. finish_rises s.meter (result_of t) under s (body args) (exec_rises m calls h f.body [] (record s { locals = start_locals f args })))

too_deep_rises : EntersRise too_deep
too_deep_rises f t ops s = args_rise s.meter (arguments (length t.params) [] ops) (λ args under. Trap CallDepth s.meter) (λ args under. same s.meter)

ask_rises : (t : FuncType) → CallsRise (ask t)
ask_rises t f ops s =
    args_rise s.meter (arguments (length t.params) [] ops)
    (λ args under. Ask f (map number_of args) s.store.memory.bytes s.meter (λ v bytes b. Normal (answered (result_of t) v ++ under) (record s { store = with_bytes bytes s.store; meter = b })))
    (λ args under. (same s.meter, λ v bytes d l. same d))

own_rises : (o : Option Function) (go : Function → FuncType → List Value → State → Run) (t : FuncType) (ops : List Value) (s : State) → EntersRise go → Rises s.meter (own_call o go t ops s)
own_rises None go t ops s h = tt
own_rises (Some f) go t ops s h = h f t ops s

any_rises : (m : Module) (go : Function → FuncType → List Value → State → Run) (x : Bool) (o : Option FuncType) → EntersRise go → CallsRise (any_call m go x o)
any_rises m go x None h f ops s = tt
any_rises m go true (Some t) h f ops s = ask_rises t f ops s
any_rises m go false (Some t) h f ops s = own_rises (slice_get m.functions (f - length m.imports)) go t ops s h

call_rises : (m : Module) (room : ℕ) → CallsRise (call_of m room)
call_rises m zero f ops s = any_rises m too_deep (is_import m f) (function_type m f) too_deep_rises f ops s
call_rises m (suc room) f ops s = any_rises m (enter m (call_of m room)) (is_import m f) (function_type m f) (enter_rises m (call_of m room) (call_rises m room)) f ops s

-- with a host

module _ {W Q : Type 0} (sums : Q → Meter) (host : Host W Q) (never : NeverLowers host) (quits : QuitsLater sums host) where
  ends_since : (a b : Meter) (e : End W Q) → IsLater a b → EndsLater sums b e → EndsLater sums a e
  ends_since a b (Returned results c w) l h = later a b c l h
  ends_since a b (Trapped kind c w) l h = later a b c l h
  ends_since a b (Exhausted c w) l h = later a b c l h
  ends_since a b (Quit q) l h = later a b (sums q) l h
  ends_since a b Broken l h = tt

  reply_ends : (b : Meter) (r : Reply W Q) (go : ℕ → List ℕ → Meter → W → End W Q) → IsLaterReply b r → ((q : Q) → r ≡ Quits q → IsLater b (sums q))
      → ((v : ℕ) (bytes : List ℕ) (c : Meter) (w : W) → IsLater b c → EndsLater sums c (go v bytes c w)) → EndsLater sums b (after_reply r go)
  reply_ends b (Answers w v bytes c) go l q next = ends_since b c (go v bytes c w) l (next v bytes c w l)
  reply_ends b (Quits q) go l h next = h q refl

  interp_ends : (b : Meter) (r : Run) (w : W) → Rises b r → EndsLater sums b (interp host r w)
  interp_ends b (Normal ops s) w h = h
  interp_ends b (Branch d ops s) w h = tt
  interp_ends b (Return ops s) w h = tt
  interp_ends b (Trap kind c) w h = h
  interp_ends b (Spent c) w h = h
  interp_ends b Stuck w h = tt
  interp_ends b (Ask f args memory c on) w h =
      let go : ℕ → List ℕ → Meter → W → End W Q = λ v bytes d u. interp host (on v bytes d) u in
      ends_since b c (after_reply (host f args memory c w) go) h.0
      (reply_ends c (host f args memory c w) go (never f args memory c w) (quits f args memory c w) (λ v bytes d u l. interp_ends d (on v bytes d) u (h.1 v bytes d l)))

pub sums_grow : {W Q : Type 0} → SumsGrow W Q
sums_grow {W} {Q} sums host m f args store b w never quits =
    interp_ends sums host never quits b (meaning m f args store b) w (call_rises m MOST_CALLS f (reverse (map value.I64 args)) (beginning store b))
