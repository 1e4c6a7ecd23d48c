-- Runs that differ in the count of instructions alone come to the same, where both counts are enough.
use Rattle.std.proofs.Common.{◌≡◌, ℕ, zero, suc, ◌-◌, ◌<◌, ◌≤◌, Bool, true, false, List, [], ◌∷◌, ◌++◌, length, map, Option, Some, None, refl, sym, ap, subst, arith}
use Rattle.std.specs.Prelude.{slice_get}
use Rattle.budget_meter.specs.declared.kind.Kind.TheVariants.{WasmInsnExec, MemAlloc}
use Rattle.budget_meter.specs.declared.terms.Terms.{Terms}
use Rattle.budget_meter.specs.Meter.{Meter, used_after}
use Rattle.wasm_spec.specs.declared.types.ValueType.TheVariants.{I32}
use Rattle.wasm_spec.specs.declared.types.FuncType.{FuncType}
use Rattle.wasm_spec.specs.declared.values.Value.{Value}
use Rattle.wasm_spec.specs.declared.values.Value.TheVariants as value
use Rattle.wasm_spec.specs.declared.values.TrapKind.TheVariants.{CallDepth}
use Rattle.wasm_spec.specs.declared.instructions.Control.{Control}
use Rattle.wasm_spec.specs.declared.instructions.Control.TheVariants as jump
use Rattle.wasm_spec.specs.declared.module.Function.{Function}
use Rattle.wasm_spec.specs.declared.module.Module.{Module}
use Rattle.wasm_spec.specs.Code.{Code, end, plain, control, block, loop, choose, BlockType}
use Rattle.wasm_spec.specs.Typing.{function_type, result_of}
use Rattle.wasm_spec.specs.Stores.{number_of, answered, pop, Store, with_bytes}
use Rattle.wasm_spec.specs.Effects.{Effect, Leaves, Grows, Faults, Lacks, effect_of}
use Rattle.wasm_spec.specs.Runs.{State, Run, Normal, Branch, Return, Trap, Spent, Stuck, Ask, has_room, charged_if, charged, executed, effect_run, then_do, carried, whole, onto, leave, again, turns}
use Rattle.wasm_spec.specs.Spending.{Enough, paid}
use Rattle.wasm_spec.specs.Meaning.{Calls, at_zero, label_for, same_function_type, matching_call, typed_call, element_call, indirect_call, control_run, exec, arguments, with_arguments, back_in, finish, start_locals, enter, too_deep, ask, own_call, is_import, any_call, call_of}
use Rattle.wasm_spec.specs.Spending.{IsLater}
use Rattle.wasm_machine.proofs.LeftLaws.{later_enough, executed_is, paid_enough, some_left}

-- the state with another count, where both are enough
pub record Twins (s : State) (l : ℕ) : Type 0 where
  pub enough : Enough s
  pub other : Enough (record s { left = l })
  pub costs : 1 ≤ s.meter.terms.wasm_insn_exec.instructions.constant

-- The second run is the first with other counts, for answers that never lower the sums. No count is above its bound, and behind a branch each is below it.
abbrev pub Alike : ℕ → ℕ → Run → Run → Type 0
Alike j k (Normal ops s) q = (l : ℕ) × (q ≡ Normal ops (record s { left = l })) × Twins s l × (s.left ≤ j) × (l ≤ k)
Alike j k (Branch d ops s) q = (l : ℕ) × (q ≡ Branch d ops (record s { left = l })) × Twins s l × (s.left < j) × (l < k)
Alike j k (Return ops s) q = (l : ℕ) × (q ≡ Return ops (record s { left = l })) × Twins s l × (s.left ≤ j) × (l ≤ k)
Alike j k (Trap kind b) q = q ≡ Trap kind b
Alike j k (Spent b) q = q ≡ Spent b
Alike j k Stuck q = q ≡ Stuck
Alike j k (Ask f args memory b on) q =
    (other : (ℕ → List ℕ → Meter → Run)) × (q ≡ Ask f args memory b other) × ((v : ℕ) (bytes : List ℕ) (c : Meter) → IsLater b c → Alike j k (on v bytes c) (other v bytes c))

more : (j k a b : ℕ) (r q : Run) → j ≤ a → k ≤ b → Alike j k r q → Alike a b r q
more j k a b (Normal ops s) q ja kb h = (h.0, h.1, h.2, omega (arith, h.3), omega (arith, h.4))
more j k a b (Branch d ops s) q ja kb h = (h.0, h.1, h.2, omega (arith, h.3), omega (arith, h.4))
more j k a b (Return ops s) q ja kb h = (h.0, h.1, h.2, omega (arith, h.3), omega (arith, h.4))
more j k a b (Trap kind c) q ja kb h = h
more j k a b (Spent c) q ja kb h = h
more j k a b Stuck q ja kb h = h
more j k a b (Ask f args memory c on) q ja kb h = (h.0, h.1, λ v bytes d later. more j k a b (on v bytes d) (h.0 v bytes d) ja kb (h.2 v bytes d later))

-- one run after another

then_alike : (j k : ℕ) (r q : Run) (go : List Value → State → Run) → Alike j k r q
    → ((ops : List Value) (s : State) (l : ℕ) → Twins s l → s.left ≤ j → l ≤ k → Alike j k (go ops s) (go ops (record s { left = l }))) → Alike j k (then_do r go) (then_do q go)
then_alike j k (Normal ops s) q go h next = subst (λ (x : Run). Alike j k (go ops s) (then_do x go)) (sym h.1) (next ops s h.0 h.2 h.3 h.4)
then_alike j k (Branch d ops s) q go h next = (h.0, ap (λ (x : Run). then_do x go) h.1, h.2, h.3, h.4)
then_alike j k (Return ops s) q go h next = (h.0, ap (λ (x : Run). then_do x go) h.1, h.2, h.3, h.4)
then_alike j k (Trap kind b) q go h next = ap (λ (x : Run). then_do x go) h
then_alike j k (Spent b) q go h next = ap (λ (x : Run). then_do x go) h
then_alike j k Stuck q go h next = ap (λ (x : Run). then_do x go) h
then_alike j k (Ask f args memory b on) q go h next =
    ((λ v bytes c. then_do (h.0 v bytes c) go), ap (λ (x : Run). then_do x go) h.1, λ v bytes c later. then_alike j k (on v bytes c) (h.0 v bytes c) go (h.2 v bytes c later) next)

onto_alike : (j k : ℕ) (under : List Value) (s : State) (l : ℕ) (o : Option (List Value)) → Twins s l → s.left ≤ j → l ≤ k → Alike j k (onto under s o) (onto under (record s { left = l }) o)
onto_alike j k under s l None t a b = refl
onto_alike j k under s l (Some vs) t a b = (l, refl, t, a, b)

leave_alike : (j k : ℕ) (t : BlockType) (under : List Value) (r q : Run) → Alike j k r q → Alike j k (leave t under r) (leave t under q)
leave_alike j k t under (Normal ops s) q h = subst (λ (x : Run). Alike j k (onto under s (whole t ops)) (leave t under x)) (sym h.1) (onto_alike j k under s h.0 (whole t ops) h.2 h.3 h.4)
leave_alike j k t under (Branch zero ops s) q h =
    subst (λ (x : Run). Alike j k (onto under s (carried t ops)) (leave t under x)) (sym h.1) (onto_alike j k under s h.0 (carried t ops) h.2 (omega (arith, h.3)) (omega (arith, h.4)))
leave_alike j k t under (Branch (suc d) ops s) q h = (h.0, ap (λ (x : Run). leave t under x) h.1, h.2, h.3, h.4)
leave_alike j k t under (Return ops s) q h = (h.0, ap (λ (x : Run). leave t under x) h.1, h.2, h.3, h.4)
leave_alike j k t under (Trap kind b) q h = ap (λ (x : Run). leave t under x) h
leave_alike j k t under (Spent b) q h = ap (λ (x : Run). leave t under x) h
leave_alike j k t under Stuck q h = ap (λ (x : Run). leave t under x) h
leave_alike j k t under (Ask f args memory b on) q h =
    ((λ v bytes c. leave t under (h.0 v bytes c)), ap (λ (x : Run). leave t under x) h.1, λ v bytes c later. leave_alike j k t under (on v bytes c) (h.0 v bytes c) (h.2 v bytes c later))

again_alike : (j k : ℕ) (go og : State → Run) (r q : Run) → Alike j k r q → ((s : State) (l : ℕ) → Twins s l → s.left < j → l < k → Alike j k (go s) (og (record s { left = l }))) → Alike j k (again go r) (again og q)
again_alike j k go og (Normal ops s) q h next = (h.0, ap (λ (x : Run). again og x) h.1, h.2, h.3, h.4)
again_alike j k go og (Branch zero ops s) q h next = subst (λ (x : Run). Alike j k (go s) (again og x)) (sym h.1) (next s h.0 h.2 h.3 h.4)
again_alike j k go og (Branch (suc d) ops s) q h next = (h.0, ap (λ (x : Run). again og x) h.1, h.2, h.3, h.4)
again_alike j k go og (Return ops s) q h next = (h.0, ap (λ (x : Run). again og x) h.1, h.2, h.3, h.4)
again_alike j k go og (Trap kind b) q h next = ap (λ (x : Run). again og x) h
again_alike j k go og (Spent b) q h next = ap (λ (x : Run). again og x) h
again_alike j k go og Stuck q h next = ap (λ (x : Run). again og x) h
again_alike j k go og (Ask f args memory b on) q h next =
    ((λ v bytes c. again og (h.0 v bytes c)), ap (λ (x : Run). again og x) h.1, λ v bytes c later. again_alike j k go og (on v bytes c) (h.0 v bytes c) (h.2 v bytes c later) next)

-- No loop comes to the end of its turns, as each turn is an instruction at least.
turns_alike : (n p : ℕ) (body : State → Run) → ((s : State) (l : ℕ) → Twins s l → Alike s.left l (body s) (body (record s { left = l })))
    → (s : State) (l : ℕ) → Twins s l → s.left < n → l < p → Alike s.left l (turns n body s) (turns p body (record s { left = l }))
turns_alike zero p body h s l t a b = absurd (omega arith)
turns_alike (suc n) zero body h s l t a b = absurd (omega arith)
turns_alike (suc n) (suc p) body h s l t a b =
    again_alike s.left l (turns n body) (turns p body) (body s) (body (record s { left = l })) (h s l t)
    (λ u m tu ua ub. more u.left m s.left l (turns n body u) (turns p body (record u { left = m })) (omega arith) (omega arith) (turns_alike n p body h u m tu (omega arith) (omega arith)))

-- charges

charge_alike : (x : Bool) (s : State) (l : ℕ) (go : State → Run) → has_room s.meter.limits (used_after s.meter WasmInsnExec 1) ≡ x → Twins s l
    → ((t : State) (n : ℕ) → Twins t n → s.left ≡ suc t.left → l ≡ suc n → Alike s.left l (go t) (go (record t { left = n })))
    → Alike s.left l (charged_if x Spent (record s.meter { used = used_after s.meter WasmInsnExec 1 }) (record s { left = s.left - 1 }) go)
    (charged_if x Spent (record s.meter { used = used_after s.meter WasmInsnExec 1 }) (record s { left = l - 1 }) go)
charge_alike false s l go room t next = refl
charge_alike true s l go room t next =
    let o : State = record s { left = l } in
    let a = some_left s.left s refl room t.costs t.enough in
    let b = some_left l o refl room t.costs t.other in
    next (paid s) (l - 1) (record { enough = paid_enough s.left s refl room t.costs t.enough; other = paid_enough l o refl room t.costs t.other; costs = t.costs }) (omega arith) (omega arith)

executed_alike : (s : State) (l : ℕ) (go : State → Run) → Twins s l → ((t : State) (n : ℕ) → Twins t n → s.left ≡ suc t.left → l ≡ suc n → Alike s.left l (go t) (go (record t { left = n })))
    → Alike s.left l (executed Spent s go) (executed Spent (record s { left = l }) go)
executed_alike s l go t next =
    let o : State = record s { left = l } in
    let at = charge_alike (has_room s.meter.limits (used_after s.meter WasmInsnExec 1)) s l go refl t next in
    subst (λ (x : Run). Alike s.left l x (executed Spent o go)) (sym (executed_is Spent s go t.enough t.costs))
    (subst (λ (x : Run). Alike s.left l (charged WasmInsnExec 1 Spent (record s { left = s.left - 1 }) go) x) (sym (executed_is Spent o go t.other t.costs)) at)

grown_alike : (x : Bool) (bytes : ℕ) (ops locals : List Value) (store : Store) (s : State) (l : ℕ) → Twins s l
    → Alike s.left l (charged_if x Spent (record s.meter { used = used_after s.meter MemAlloc bytes }) s (λ u. Normal ops (record u { locals = locals; store = store })))
    (charged_if x Spent (record s.meter { used = used_after s.meter MemAlloc bytes }) (record s { left = l }) (λ u. Normal ops (record u { locals = locals; store = store })))
grown_alike false bytes ops locals store s l t = refl
grown_alike true bytes ops locals store s l t = (l, refl, record { enough = omega (arith, t.enough); other = omega (arith, t.other); costs = t.costs }, omega arith, omega arith)

effect_alike : (e : Effect) (s : State) (l : ℕ) → Twins s l → Alike s.left l (effect_run e s) (effect_run e (record s { left = l }))
effect_alike (Leaves ops locals store) s l t = (l, refl, record { enough = t.enough; other = t.other; costs = t.costs }, omega arith, omega arith)
effect_alike (Grows bytes ops locals store) s l t = grown_alike (has_room s.meter.limits (used_after s.meter MemAlloc bytes)) bytes ops locals store s l t
effect_alike (Faults kind) s l t = refl
effect_alike Lacks s l t = refl

-- control instructions

pop_alike : (j k : ℕ) (ops : List Value) (go og : ℕ → List Value → Run) → ((n : ℕ) (rest : List Value) → Alike j k (go n rest) (og n rest)) → Alike j k (pop Stuck I32 ops go) (pop Stuck I32 ops og)
pop_alike j k [] go og h = refl
pop_alike j k (value.I32 n ∷ ops) go og h = h n ops
pop_alike j k (value.I64 n ∷ ops) go og h = refl

zero_alike : (j k n : ℕ) (a b c d : Run) → Alike j k a c → Alike j k b d → Alike j k (at_zero n a b) (at_zero n c d)
zero_alike j k zero a b c d h g = h
zero_alike j k (suc n) a b c d h g = g

abbrev CallsAlike : Calls → Type 0
CallsAlike calls = (f : ℕ) (ops : List Value) (s : State) (l : ℕ) → Twins s l → Alike s.left l (calls f ops s) (calls f ops (record s { left = l }))

matching_alike : (x : Bool) (calls : Calls) → CallsAlike calls → CallsAlike (matching_call x calls)
matching_alike false calls h f ops s l t = refl
matching_alike true calls h f ops s l t = h f ops s l t

typed_alike : (calls : Calls) (wanted : FuncType) (o : Option FuncType) → CallsAlike calls → CallsAlike (typed_call calls wanted o)
typed_alike calls wanted None h f ops s l t = refl
typed_alike calls wanted (Some u) h f ops s l t = matching_alike (same_function_type wanted u) calls h f ops s l t

element_alike : (m : Module) (calls : Calls) (wanted : FuncType) (o : Option (Option ℕ)) (ops : List Value) (s : State) (l : ℕ) → CallsAlike calls → Twins s l
    → Alike s.left l (element_call m calls wanted o ops s) (element_call m calls wanted o ops (record s { left = l }))
element_alike m calls wanted None ops s l h t = refl
element_alike m calls wanted (Some None) ops s l h t = refl
element_alike m calls wanted (Some (Some f)) ops s l h t = typed_alike calls wanted (function_type m f) h f ops s l t

indirect_alike : (m : Module) (calls : Calls) (o : Option FuncType) (n : ℕ) (ops : List Value) (s : State) (l : ℕ) → CallsAlike calls → Twins s l
    → Alike s.left l (indirect_call m calls o n ops s) (indirect_call m calls o n ops (record s { left = l }))
indirect_alike m calls None n ops s l h t = refl
indirect_alike m calls (Some wanted) n ops s l h t = element_alike m calls wanted (slice_get s.store.table n) ops s l h t

control_alike : (m : Module) (calls : Calls) (c : Control) (ops : List Value) (s : State) (l : ℕ) → CallsAlike calls → Twins s l
    → Alike (suc s.left) (suc l) (control_run m calls c ops s) (control_run m calls c ops (record s { left = l }))
control_alike m calls jump.Unreachable ops s l h t = refl
control_alike m calls (jump.Br d) ops s l h t = (l, refl, t, omega arith, omega arith)
control_alike m calls (jump.BrIf d) ops s l h t =
    let o : State = record s { left = l } in
    pop_alike (suc s.left) (suc l) ops (λ n ops. at_zero n (Normal ops s) (Branch d ops s)) (λ n ops. at_zero n (Normal ops o) (Branch d ops o))
    (λ n ops. zero_alike (suc s.left) (suc l) n (Normal ops s) (Branch d ops s) (Normal ops o) (Branch d ops o) (l, refl, t, omega arith, omega arith) (l, refl, t, omega arith, omega arith))
control_alike m calls (jump.BrTable ds d) ops s l h t =
    let o : State = record s { left = l } in
    pop_alike (suc s.left) (suc l) ops (λ n ops. Branch (label_for ds d n) ops s) (λ n ops. Branch (label_for ds d n) ops o) (λ n ops. (l, refl, t, omega arith, omega arith))
control_alike m calls jump.Return ops s l h t = (l, refl, t, omega arith, omega arith)
control_alike m calls (jump.Call f) ops s l h t = more s.left l (suc s.left) (suc l) (calls f ops s) (calls f ops (record s { left = l })) (omega arith) (omega arith) (h f ops s l t)
control_alike m calls (jump.CallIndirect i) ops s l h t =
    let o : State = record s { left = l } in
    let wanted = slice_get m.types i in
    pop_alike (suc s.left) (suc l) ops (λ n ops. indirect_call m calls wanted n ops s) (λ n ops. indirect_call m calls wanted n ops o)
    (λ n ops. more s.left l (suc s.left) (suc l) (indirect_call m calls wanted n ops s) (indirect_call m calls wanted n ops o) (omega arith) (omega arith) (indirect_alike m calls wanted n ops s l h t))

-- code

module _ (m : Module) (calls : Calls) (h : CallsAlike calls) where
  -- the rest of the code, once an instruction came to r
  rest_alike : (j k : ℕ) (r q : Run) (rest : Code) → ((ops : List Value) (s : State) (l : ℕ) → Twins s l → Alike s.left l (exec m calls rest ops s) (exec m calls rest ops (record s { left = l })))
      → Alike j k r q → Alike j k (then_do r (exec m calls rest)) (then_do q (exec m calls rest))
  rest_alike j k r q rest go alike =
      then_alike j k r q (exec m calls rest) alike (λ ops s l t a b. more s.left l j k (exec m calls rest ops s) (exec m calls rest ops (record s { left = l })) a b (go ops s l t))

  pub exec_alike : (code : Code) (ops : List Value) (s : State) (l : ℕ) → Twins s l → Alike s.left l (exec m calls code ops s) (exec m calls code ops (record s { left = l }))
  exec_alike end ops s l t = (l, refl, t, omega arith, omega arith)
  exec_alike (plain p rest) ops s l t =
      executed_alike s l (λ u. then_do (effect_run (effect_of p ops u.locals u.store) u) (exec m calls rest)) t
      (λ u n tu a b. let e = effect_of p ops u.locals u.store in
      rest_alike s.left l (effect_run e u) (effect_run e (record u { left = n })) rest (λ ops v i tv. exec_alike rest ops v i tv)
      (more u.left n s.left l (effect_run e u) (effect_run e (record u { left = n })) (omega arith) (omega arith) (effect_alike e u n tu)))
  exec_alike (control c rest) ops s l t =
      executed_alike s l (λ u. then_do (control_run m calls c ops u) (exec m calls rest)) t
      (λ u n tu a b. rest_alike s.left l (control_run m calls c ops u) (control_run m calls c ops (record u { left = n })) rest (λ ops v i tv. exec_alike rest ops v i tv)
      (more (suc u.left) (suc n) s.left l (control_run m calls c ops u) (control_run m calls c ops (record u { left = n })) (omega arith) (omega arith) (control_alike m calls c ops u n h tu)))
  exec_alike (block k body rest) ops s l t =
      executed_alike s l (λ u. then_do (leave k ops (exec m calls body [] u)) (exec m calls rest)) t
      (λ u n tu a b. let r = exec m calls body [] u in let q = exec m calls body [] (record u { left = n }) in
      rest_alike s.left l (leave k ops r) (leave k ops q) rest (λ ops v i tv. exec_alike rest ops v i tv)
      (leave_alike s.left l k ops r q (more u.left n s.left l r q (omega arith) (omega arith) (exec_alike body [] u n tu))))
  exec_alike (loop k body rest) ops s l t =
      executed_alike s l (λ u. then_do (leave k ops (turns (suc u.left) (exec m calls body []) u)) (exec m calls rest)) t
      (λ u n tu a b. let r = turns (suc u.left) (exec m calls body []) u in let q = turns (suc n) (exec m calls body []) (record u { left = n }) in
      rest_alike s.left l (leave k ops r) (leave k ops q) rest (λ ops v i tv. exec_alike rest ops v i tv)
      (leave_alike s.left l k ops r q
      (more u.left n s.left l r q (omega arith) (omega arith) (turns_alike (suc u.left) (suc n) (exec m calls body []) (λ v i tv. exec_alike body [] v i tv) u n tu (omega arith) (omega arith)))))
  exec_alike (choose k taken other rest) ops s l t =
      let go : State → ℕ → List Value → Run = λ u n ops. then_do (leave k ops (at_zero n (exec m calls other [] u) (exec m calls taken [] u))) (exec m calls rest) in
      executed_alike s l (λ u. pop Stuck I32 ops (go u)) t
      (λ u n tu a b. let o : State = record u { left = n } in
      pop_alike s.left l ops (go u) (go o)
      (λ i ops. let r = at_zero i (exec m calls other [] u) (exec m calls taken [] u) in let q = at_zero i (exec m calls other [] o) (exec m calls taken [] o) in
      rest_alike s.left l (leave k ops r) (leave k ops q) rest (λ ops v i tv. exec_alike rest ops v i tv)
      (leave_alike s.left l k ops r q (more u.left n s.left l r q (omega arith) (omega arith)
      (zero_alike u.left n i (exec m calls other [] u) (exec m calls taken [] u) (exec m calls other [] o) (exec m calls taken [] o) (exec_alike other [] u n tu) (exec_alike taken [] u n tu))))))

-- calls

args_alike : (j k : ℕ) (o : Option (List Value × List Value)) (go og : List Value → List Value → Run) → ((args under : List Value) → Alike j k (go args under) (og args under)) → Alike j k (with_arguments o go) (with_arguments o og)
args_alike j k None go og h = refl
args_alike j k (Some a) go og h = h a.0 a.1

module _ (j k : ℕ) (t : BlockType) (under : List Value) (caller : State) (n : ℕ) where
  back : (s : State) (l : ℕ) → Twins s l → Twins (back_in caller s) l
  back s l h = record { enough = h.enough; other = h.other; costs = h.costs }

  finish_alike : (r q : Run) → Alike j k r q → Alike j k (finish t under caller r) (finish t under (record caller { left = n }) q)
  finish_alike (Normal ops s) q h =
      subst (λ (x : Run). Alike j k (onto under (back_in caller s) (whole t ops)) (finish t under (record caller { left = n }) x)) (sym h.1)
      (onto_alike j k under (back_in caller s) h.0 (whole t ops) (back s h.0 h.2) h.3 h.4)
  finish_alike (Branch zero ops s) q h =
      subst (λ (x : Run). Alike j k (onto under (back_in caller s) (carried t ops)) (finish t under (record caller { left = n }) x)) (sym h.1)
      (onto_alike j k under (back_in caller s) h.0 (carried t ops) (back s h.0 h.2) (omega (arith, h.3)) (omega (arith, h.4)))
  finish_alike (Branch (suc d) ops s) q h = ap (λ (x : Run). finish t under (record caller { left = n }) x) h.1
  finish_alike (Return ops s) q h =
      subst (λ (x : Run). Alike j k (onto under (back_in caller s) (carried t ops)) (finish t under (record caller { left = n }) x)) (sym h.1)
      (onto_alike j k under (back_in caller s) h.0 (carried t ops) (back s h.0 h.2) h.3 h.4)
  finish_alike (Trap kind b) q h = ap (λ (x : Run). finish t under (record caller { left = n }) x) h
  finish_alike (Spent b) q h = ap (λ (x : Run). finish t under (record caller { left = n }) x) h
  finish_alike Stuck q h = ap (λ (x : Run). finish t under (record caller { left = n }) x) h
  finish_alike (Ask f args memory b on) q h = (
    (λ v bytes c. finish t under (record caller { left = n }) (h.0 v bytes c)),
    ap (λ (x : Run). finish t under (record caller { left = n }) x) h.1,
    λ v bytes c later. finish_alike (on v bytes c) (h.0 v bytes c) (h.2 v bytes c later),
  )

-- what a call does, by the function and its type
abbrev EntersAlike : (Function → FuncType → List Value → State → Run) → Type 0
EntersAlike go = (f : Function) (t : FuncType) (ops : List Value) (s : State) (l : ℕ) → Twins s l → Alike s.left l (go f t ops s) (go f t ops (record s { left = l }))

enter_alike : (m : Module) (calls : Calls) → CallsAlike calls → EntersAlike (enter m calls)
enter_alike m calls h f t ops s l tw =
    let o : State = record s { left = l } in
    let body : State → List Value → Run = λ u args. exec m calls f.body [] (record u { locals = start_locals f args }) in
    args_alike s.left l (arguments (length t.params) [] ops) (λ args under. finish (result_of t) under s (body s args)) (λ args under. finish (result_of t) under o (body o args))
    (λ args under. finish_alike s.left l (result_of t) under s l (body s args) (body o args)
    (exec_alike m calls h f.body [] (record s { locals = start_locals f args }) l (record { enough = tw.enough; other = tw.other; costs = tw.costs })))

too_deep_alike : (m : Module) → EntersAlike (too_deep)
too_deep_alike m f t ops s l tw =
    args_alike s.left l (arguments (length t.params) [] ops) (λ args under. Trap CallDepth s.meter) (λ args under. Trap CallDepth s.meter) (λ args under. refl)

-- a host's answer, which lowers no sum, leaves enough
ask_alike : (t : FuncType) → CallsAlike (ask t)
ask_alike t f ops s l tw =
    let o : State = record s { left = l } in
    let asks : State → List Value → List Value → Run = λ u args under. Ask f (map number_of args) u.store.memory.bytes u.meter (λ v bytes b. Normal (answered (result_of t) v ++ under) (record u { store = with_bytes bytes u.store; meter = b })) in
    args_alike s.left l (arguments (length t.params) [] ops) (asks s) (asks o)
    (λ args under. (
      (λ v bytes b. Normal (answered (result_of t) v ++ under) (record o { store = with_bytes bytes s.store; meter = b })),
      refl,
      λ v bytes b later. (
        l,
        refl,
        record { enough = later_enough s b later tw.enough; other = later_enough o b later tw.other; costs = subst (λ (x : Terms). 1 ≤ x.wasm_insn_exec.instructions.constant) (sym later.terms) tw.costs },
        omega arith,
        omega arith,
      ),
    ))

own_alike : (o : Option Function) (go : Function → FuncType → List Value → State → Run) (t : FuncType) (ops : List Value) (s : State) (l : ℕ) → EntersAlike go → Twins s l → Alike s.left l (own_call o go t ops s) (own_call o go t ops (record s { left = l }))
own_alike None go t ops s l h tw = refl
own_alike (Some f) go t ops s l h tw = h f t ops s l tw

any_alike : (m : Module) (go : Function → FuncType → List Value → State → Run) (x : Bool) (o : Option FuncType) → EntersAlike go → CallsAlike (any_call m go x o)
any_alike m go x None h f ops s l tw = refl
any_alike m go true (Some t) h f ops s l tw = ask_alike t f ops s l tw
any_alike m go false (Some t) h f ops s l tw = own_alike (slice_get m.functions (f - length m.imports)) go t ops s l h tw

pub call_alike : (m : Module) (room : ℕ) → CallsAlike (call_of m room)
call_alike m zero f ops s l tw = any_alike m too_deep (is_import m f) (function_type m f) (too_deep_alike m) f ops s l tw
call_alike m (suc room) f ops s l tw = any_alike m (enter m (call_of m room)) (is_import m f) (function_type m f) (enter_alike m (call_of m room) (call_alike m room)) f ops s l tw
