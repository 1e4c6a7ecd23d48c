-- Calls of a valid module's functions are never stuck.
use Rattle.std.proofs.Common.{◌≡◌, ℕ, zero, suc, ◌-◌, ◌<◌, Bool, true, false, List, [], ◌∷◌, ◌++◌, length, map, Option, Some, None, refl, sym, ap, ◌∙◌, subst, arith, append_assoc}
use Rattle.std.specs.Prelude.{slice_get, reverse, option_to_list, is_some}
use Rattle.std.specs.List.{AllByRecursion}
use Rattle.std.proofs.lemmas.List.{length-reverse, reverse-reverse}
use Rattle.std.proofs.lemmas.Grind.{reverse_onto}
use Rattle.wasm_spec.specs.declared.types.ValueType.{ValueType}
use Rattle.wasm_spec.specs.declared.types.FuncType.{FuncType}
use Rattle.wasm_spec.specs.declared.values.Value.{Value}
use Rattle.wasm_spec.specs.declared.values.TrapKind.TheVariants.{CallDepth}
use Rattle.wasm_spec.specs.declared.module.Import.{Import}
use Rattle.wasm_spec.specs.declared.module.Function.{Function}
use Rattle.wasm_spec.specs.declared.module.Module.{Module}
use Rattle.wasm_spec.specs.Code.{BlockType}
use Rattle.wasm_spec.specs.Binary.{type_indices}
use Rattle.wasm_spec.specs.Typing.{◌>>=◌, Context, CodeTyped, function_indices, function_type, result_of, local_types, body_context, FunctionTyped, OutsideValid, Typed}
use Rattle.wasm_spec.specs.Integers.{width, wrap}
use Rattle.wasm_spec.specs.Stores.{number_of, zero_of, answered, with_bytes}
use Rattle.wasm_spec.specs.Runs.{State, Run, Normal, Branch, Return, Trap, Spent, Stuck, Ask, whole, carried, onto}
use Rattle.wasm_spec.specs.Meaning.{NamesImport, Calls, exec, arguments, with_arguments, back_in, finish, start_locals, enter, too_deep, ask, own_call, is_import, any_call, call_of}
use Rattle.wasm_spec.proofs.Sound.{HasTypes, StoreTyped, Good, CallGood, CallsGood, FunctionsKnown, HasTypes-append, type-value_of, bind_is, whole_good, carried_good, own_label, exec_good}

-- operands of a call

reverse_more : (t : ValueType) (ts us : List ValueType) → reverse ts ++ (t ∷ us) ≡ reverse (t ∷ ts) ++ us
reverse_more t ts us = sym (append_assoc (reverse ts) (t ∷ []) us) ∙ ap (λ x. x ++ us) (sym (reverse_onto ts t []))

-- the arguments, whose types are ts from the top down
arguments_good : (ts us below : List ValueType) (args ops : List Value) (n : ℕ) → n ≡ length ts → HasTypes args us → HasTypes ops (ts ++ below) → (all rest : List Value) × (arguments n args ops ≡ Some (all, rest)) × HasTypes all (reverse ts ++ us) × HasTypes rest below
arguments_good [] us below args ops zero e ha ho = (args, ops, refl, ha, ho)
arguments_good [] us below args ops (suc n) e ha ho = absurd (omega arith)
arguments_good (t ∷ ts) us below args ops zero e ha ho = absurd (omega arith)
arguments_good (t ∷ ts) us below args [] (suc n) e ha ho = absurd ho
arguments_good (t ∷ ts) us below args (v ∷ ops) (suc n) e ha ho =
    let a = arguments_good ts (t ∷ us) below (v ∷ args) ops n (omega arith) (ho.0, ha) ho.1 in
    (a.0, a.1, a.2, subst (HasTypes a.0) (reverse_more t ts us) a.3, a.4)

append-nil : (ts : List ValueType) → ts ++ [] ≡ ts
append-nil [] = refl
append-nil (t ∷ ts) = ap (λ x. t ∷ x) (append-nil ts)

taken_good : (m : Module) (t : FuncType) (below us : List ValueType) (ops locals : List Value) (go : List Value → List Value → Run) → HasTypes ops (reverse t.params ++ below) → ((args rest : List Value) → HasTypes args t.params → HasTypes rest below → CallGood m locals us (go args rest)) → CallGood m locals us (with_arguments (arguments (length t.params) [] ops) go)
taken_good m t below us ops locals go h next =
    let a = arguments_good (reverse t.params) [] below [] ops (length t.params) (sym (length-reverse t.params)) tt h in
    subst (λ o. CallGood m locals us (with_arguments o go)) (sym a.2) (next a.0 a.1 (subst (HasTypes a.0) (append-nil (reverse (reverse t.params)) ∙ reverse-reverse t.params) a.3) a.4)

-- the end of a call

onto_back : (c : Context) (caller : State) (us : List ValueType) (under : List Value) (o : Option (List Value)) (s : State) → Good c us (onto under s o) → CallGood c.module_ caller.locals us (onto under (back_in caller s) o)
onto_back c caller us under None s h = h
onto_back c caller us under (Some vs) s h = (h.0, refl, h.1.1)

carried_back : (m : Module) (r : BlockType) (under ops : List Value) (below more : List ValueType) (caller s : State) → HasTypes ops (option_to_list r ++ more) → HasTypes under below → StoreTyped m s.store → CallGood m caller.locals (option_to_list r ++ below) (onto under (back_in caller s) (carried r ops))
carried_back m None under ops below more caller s h u st = (u, refl, st)
carried_back m (Some t) under [] below more caller s h u st = h
carried_back m (Some t) under (v ∷ ops) below more caller s h u st = ((h.0, u), refl, st)

pub finish_good : (c : Context) (r : BlockType) (under : List Value) (below : List ValueType) (caller : State) (run : Run) → c.labels ≡ r ∷ [] → c.result ≡ r → Good c (option_to_list r) run → HasTypes under below → CallGood c.module_ caller.locals (option_to_list r ++ below) (finish r under caller run)
finish_good c r under below caller (Normal ops s) el er h u = onto_back c caller (option_to_list r ++ below) under (whole r ops) s (whole_good c r ops under below s h.0 u h.1)
finish_good c r under below caller (Branch zero ops s) el er h u =
    let e : Some r ≡ Some h.0 = ap (λ (ls : List BlockType). slice_get ls 0) (sym el) ∙ h.2 in
    onto_back c caller (option_to_list r ++ below) under (carried r ops) s (carried_good c r ops under h.1 below s (own_label r h.0 ops h.1 e h.3) u h.4)
finish_good c r under below caller (Branch (suc k) ops s) el er h u =
    let e : None ≡ Some h.0 = ap (λ (ls : List BlockType). slice_get ls (suc k)) (sym el) ∙ h.2 in cc
finish_good c r under below caller (Return ops s) el er h u =
    carried_back c.module_ r under ops below h.0 caller s (subst (λ (x : BlockType). HasTypes ops (option_to_list x ++ h.0)) er h.1) u h.2.1
finish_good c r under below caller (Trap kind meter) el er h u = tt
finish_good c r under below caller (Spent meter) el er h u = tt
finish_good c r under below caller Stuck el er h u = h
finish_good c r under below caller (Ask f args memory meter on) el er h u = (h.0, λ v bytes b. finish_good c r under below caller (on v bytes b) el er (h.1 v bytes b) u)

zeros_good : (ts : List ValueType) → HasTypes (map zero_of ts) ts
zeros_good [] = tt
zeros_good (t ∷ ts) = (type-value_of t 0, zeros_good ts)

answered_good : (r : BlockType) (v : ℕ) (rest : List Value) (below : List ValueType) → HasTypes rest below → HasTypes (answered r v ++ rest) (option_to_list r ++ below)
answered_good None v rest below h = h
answered_good (Some t) v rest below h = (type-value_of t (wrap (width t) v), h)

-- the call of an import

types_count : (vs : List Value) (ts : List ValueType) → HasTypes vs ts → length vs ≡ length ts
types_count [] [] h = refl
types_count [] (t ∷ ts) h = absurd h
types_count (v ∷ vs) [] h = absurd h
types_count (v ∷ vs) (t ∷ ts) h = ap suc (types_count vs ts h.1)

import_below : (is : List Import) (f : ℕ) → is_some (slice_get is f) ≡ true → f < length is
import_below [] f e = cc
import_below (i ∷ is) zero e = omega arith
import_below (i ∷ is) (suc f) e = omega (arith, import_below is f e)

count_numbers : (vs : List Value) → length (map number_of vs) ≡ length vs
count_numbers [] = refl
count_numbers (v ∷ vs) = ap suc (count_numbers vs)

names_import : (m : Module) (f : ℕ) (t : FuncType) (args : List Value) → is_import m f ≡ true → function_type m f ≡ Some t → HasTypes args t.params → NamesImport m f (map number_of args)
names_import m f t args is e h = (import_below m.imports f is, (t, e, count_numbers args ∙ types_count args t.params h))

-- which function is called

pub all_at : {A : Type 0} (P : A → Type 0) (xs : List A) (k : ℕ) (x : A) → AllByRecursion P xs → slice_get xs k ≡ Some x → P x
all_at P [] k x h e = cc
all_at P (y ∷ xs) zero x h e = let q : y ≡ x = cc in subst P q h.0
all_at P (y ∷ xs) (suc k) x h e = all_at P xs k x h.1 e

pub get_below : {A : Type 0} (xs : List A) (k : ℕ) → k < length xs → (x : A) × (slice_get xs k ≡ Some x)
get_below [] k lt = absurd (omega arith)
get_below (x ∷ xs) zero lt = (x, refl)
get_below (x ∷ xs) (suc k) lt = get_below xs k (omega arith)

index_own : (is : List Import) (xs : List ℕ) (f i : ℕ) → is_some (slice_get is f) ≡ false → slice_get (map (λ (j : Import). j.type_index) is ++ xs) f ≡ Some i → slice_get xs (f - length is) ≡ Some i
index_own [] xs f i n e = let q : f - 0 ≡ f = omega arith in subst (λ k. slice_get xs k ≡ Some i) (sym q) e
index_own (x ∷ is) xs zero i n e = cc
index_own (x ∷ is) xs (suc f) i n e =
    let q : suc f - suc (length is) ≡ f - length is = omega arith in
    subst (λ k. slice_get xs k ≡ Some i) (sym q) (index_own is xs f i n e)

own_at : (fs : List Function) (k i : ℕ) → slice_get (type_indices fs) k ≡ Some i → (f : Function) × (slice_get fs k ≡ Some f) × (f.type_index ≡ i)
own_at [] k i e = cc
own_at (f ∷ fs) zero i e = let q : f.type_index ≡ i = cc in (f, refl, q)
own_at (f ∷ fs) (suc k) i e = own_at fs k i e

-- a function of the module's own, by its index
pub own_function : (m : Module) (f : ℕ) (t : FuncType) → is_import m f ≡ false → function_type m f ≡ Some t → (own : Function) × (slice_get m.functions (f - length m.imports) ≡ Some own) × (slice_get m.types own.type_index ≡ Some t)
own_function m f t n e =
    let b = bind_is (slice_get (function_indices m) f) (slice_get m.types) t e in
    let a = own_at m.functions (f - length m.imports) b.0 (index_own m.imports (type_indices m.functions) f b.0 n b.1) in
    (a.0, a.1, subst (λ i. slice_get m.types i ≡ Some t) (sym a.2) b.2)

indices_small : (n : ℕ) (is : List Import) (xs : List ℕ) → AllByRecursion (λ (i : Import). i.type_index < n) is → AllByRecursion (λ k. k < n) xs → AllByRecursion (λ k. k < n) (map (λ (i : Import). i.type_index) is ++ xs)
indices_small n [] xs h g = g
indices_small n (i ∷ is) xs h g = (h.0, indices_small n is xs h.1 g)

own_small : (n : ℕ) (fs : List Function) → AllByRecursion (λ (f : Function). f.type_index < n) fs → AllByRecursion (λ k. k < n) (type_indices fs)
own_small n [] h = tt
own_small n (f ∷ fs) h = (h.0, own_small n fs h.1)

pub functions_known : (m : Module) → OutsideValid m → FunctionsKnown m
functions_known m o f lt =
    let i = get_below (function_indices m) f lt in
    let small = all_at (λ k. k < length m.types) (function_indices m) f i.0 (indices_small (length m.types) m.imports (type_indices m.functions) o.imports (own_small (length m.types) m.functions o.functions)) i.1 in
    let t = get_below m.types i.0 small in
    (t.0, ap (λ (x : Option ℕ). x >>= slice_get m.types) i.1 ∙ t.1)

-- calls

module _ (m : Module) (typed : Typed m) where
  enter_good : (go : Calls) → CallsGood m go → (f : Function) (t : FuncType) (below : List ValueType) (ops : List Value) (s : State) → FunctionTyped m f → slice_get m.types f.type_index ≡ Some t → HasTypes ops (reverse t.params ++ below) → StoreTyped m s.store → CallGood m s.locals (option_to_list (result_of t) ++ below) (enter m go f t ops s)
  enter_good go go_good f t below ops s ft e h st =
      let q : ft.type_ ≡ t = let k = ft.known in cc in
      let body : CodeTyped (body_context m t f.locals) f.body [] (option_to_list (result_of t)) = subst (λ (x : FuncType). CodeTyped (body_context m x f.locals) f.body [] (option_to_list (result_of x))) q ft.body in
      taken_good m t below (option_to_list (result_of t) ++ below) ops s.locals (λ args rest. finish (result_of t) rest s (exec m go f.body [] (record s { locals = start_locals f args }))) h
      (λ args rest ha hr. finish_good (body_context m t f.locals) (result_of t) rest below s (exec m go f.body [] (record s { locals = start_locals f args })) refl refl
      (exec_good go f.body (body_context m t f.locals) [] (option_to_list (result_of t)) [] (record s { locals = start_locals f args }) (functions_known m typed.outside) go_good body tt
      (HasTypes-append args (map zero_of (local_types f.locals)) t.params (local_types f.locals) ha (zeros_good (local_types f.locals)), st)) hr)

  too_deep_good : (f : Function) (t : FuncType) (below : List ValueType) (ops : List Value) (s : State) → HasTypes ops (reverse t.params ++ below) → CallGood m s.locals (option_to_list (result_of t) ++ below) (too_deep f t ops s)
  too_deep_good f t below ops s h = taken_good m t below (option_to_list (result_of t) ++ below) ops s.locals (λ args rest. Trap CallDepth s.meter) h (λ args rest ha hr. tt)

  any_good : (go : Function → FuncType → List Value → State → Run) (f : ℕ) (b : Bool) (o : Option FuncType) (t : FuncType) (below : List ValueType) (ops : List Value) (s : State) → is_import m f ≡ b → function_type m f ≡ Some t → o ≡ Some t → HasTypes ops (reverse t.params ++ below) → StoreTyped m s.store
      → ((own : Function) → FunctionTyped m own → slice_get m.types own.type_index ≡ Some t → CallGood m s.locals (option_to_list (result_of t) ++ below) (go own t ops s))
      → CallGood m s.locals (option_to_list (result_of t) ++ below) (any_call m go b o f ops s)
  any_good go f b None t below ops s is e oe h st next = cc
  any_good go f true (Some u) t below ops s is e oe h st next =
      let q : t ≡ u = cc in
      subst (λ (x : FuncType). CallGood m s.locals (option_to_list (result_of t) ++ below) (ask x f ops s)) q
      (taken_good m t below (option_to_list (result_of t) ++ below) ops s.locals (λ args rest. Ask f (map number_of args) s.store.memory.bytes s.meter (λ v bytes b. Normal (answered (result_of t) v ++ rest) (record s { store = with_bytes bytes s.store; meter = b }))) h
      (λ args rest ha hr. (names_import m f t args is e ha, λ v bytes b. (answered_good (result_of t) v rest below hr, refl, st))))
  any_good go f false (Some u) t below ops s is e oe h st next =
      let q : t ≡ u = cc in
      let own = own_function m f t is e in
      subst (λ (x : FuncType). CallGood m s.locals (option_to_list (result_of t) ++ below) (own_call (slice_get m.functions (f - length m.imports)) go x ops s)) q
      (subst (λ o. CallGood m s.locals (option_to_list (result_of t) ++ below) (own_call o go t ops s)) (sym own.1)
      (next own.0 (all_at (FunctionTyped m) m.functions (f - length m.imports) own.0 typed.bodies own.1) own.2))

  -- A call with arguments of the function's types is never stuck.
  pub call_good : (room : ℕ) → CallsGood m (call_of m room)
  call_good zero f t below ops s e h st = any_good too_deep f (is_import m f) (function_type m f) t below ops s refl e e h st (λ own ft k. too_deep_good own t below ops s h)
  call_good (suc room) f t below ops s e h st = any_good (enter m (call_of m room)) f (is_import m f) (function_type m f) t below ops s refl e e h st (λ own ft k. enter_good (call_of m room) (call_good room) own t below ops s ft k h st)
