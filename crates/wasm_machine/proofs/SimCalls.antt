-- The machine does what a call does.
use Rattle.std.proofs.Common.{◌≡◌, ℕ, zero, suc, ◌+◌, ◌-◌, ◌≤◌, Bool, true, false, List, [], ◌∷◌, ◌++◌, length, map, Option, Some, None, refl, sym, ap, ◌∙◌, subst, arith, append_assoc, length-append}
use Rattle.std.specs.Prelude.{slice_get}
use Rattle.wasm_spec.specs.declared.types.FuncType.{FuncType}
use Rattle.wasm_spec.specs.declared.values.Value.{Value}
use Rattle.wasm_spec.specs.declared.values.TrapKind.TheVariants.{CallDepth}
use Rattle.wasm_spec.specs.declared.module.Function.{Function}
use Rattle.wasm_spec.specs.declared.module.Module.{Module}
use Rattle.wasm_spec.specs.Code.{BlockType}
use Rattle.wasm_spec.specs.Typing.{function_type, result_of}
use Rattle.wasm_spec.specs.Stores.{number_of, answered, with_bytes}
use Rattle.wasm_spec.specs.Runs.{State, Run, Normal, Branch, Return, Trap, Spent, Stuck, Ask, carried, whole, onto}
use Rattle.wasm_spec.specs.Meaning.{Calls, exec, arguments, with_arguments, back_in, finish, start_locals, enter, too_deep, ask, own_call, is_import, any_call, call_of}
use Rattle.wasm_spec.proofs.Lemmas.{own_function}
use Rattle.wasm_code.specs.declared.step.Step.TheVariants as step
use Rattle.wasm_code.specs.declared.step.FlatCode.{FlatCode}
use Rattle.wasm_code.specs.Placed.{arity, home_of, IsFunctionAt, AreFunctionsAt, IsCompiled}
use Rattle.wasm_machine.specs.Machine.{Frame, Machine, Moved, Asks, on_with, room_of, enters, taking, calls_own, calls, moves, move, resumed}
use Rattle.wasm_machine.specs.Behaves.{Comes, here, more, StopsToAsk}
use Rattle.wasm_machine.proofs.Sim.{joined, asks_after, at, Carries, Follows, EndsWith, onto_ends, whole_length, carried_length}
use Rattle.wasm_machine.proofs.SimCode.{AfterCall, Returns, CallsFollow, CallsEnd, ends_weaker, sim}

-- the arguments are the same over other operands
arguments_over : (n : ℕ) (acc ops under : List Value) (a : List Value × List Value) → arguments n acc ops ≡ Some a → (arguments n acc (ops ++ under) ≡ Some (a.0, a.1 ++ under)) × (length a.1 + n ≡ length ops)
arguments_over zero acc ops under a e =
    let f : (acc, ops) ≡ a = cc in
    (ap (λ (x : List Value × List Value). Some (x.0, x.1 ++ under)) f, omega (arith, ap (λ (x : List Value × List Value). length x.1) f))
arguments_over (suc n) acc [] under a e = cc
arguments_over (suc n) acc (v ∷ ops) under a e =
    let r = arguments_over n (v ∷ acc) ops under a e in
    (r.0, omega (arith, r.1))

pub function_at : (source : Module) (flat : FlatCode) (fs : List Function) (es : List ℕ) (i : ℕ) (f : Function) → AreFunctionsAt source flat fs es → slice_get fs i ≡ Some f → (e : ℕ) × (slice_get es i ≡ Some e) × IsFunctionAt source flat f e
function_at source flat [] [] i f h g = cc
function_at source flat [] (e ∷ es) i f h g = absurd h
function_at source flat (x ∷ fs) [] i f h g = absurd h
function_at source flat (x ∷ fs) (e ∷ es) zero f h g = let q : x ≡ f = cc in (e, refl, subst (λ y. IsFunctionAt source flat y e) q h.0)
function_at source flat (x ∷ fs) (e ∷ es) (suc i) f h g = function_at source flat fs es i f h.1 g

-- how many operands a call leaves

finish_ends : (r : BlockType) (under : List Value) (caller : State) (run : Run) → EndsWith (λ n. n ≡ arity r + length under) (finish r under caller run)
finish_ends r under caller (Normal ops s) = onto_ends r under (back_in caller s) (whole r ops) (whole_length r ops)
finish_ends r under caller (Branch zero ops s) = onto_ends r under (back_in caller s) (carried r ops) (carried_length r ops)
finish_ends r under caller (Branch (suc k) ops s) = tt
finish_ends r under caller (Return ops s) = onto_ends r under (back_in caller s) (carried r ops) (carried_length r ops)
finish_ends r under caller (Trap kind meter) = tt
finish_ends r under caller (Spent meter) = tt
finish_ends r under caller Stuck = tt
finish_ends r under caller (Ask f args memory meter on) = λ v bytes b. finish_ends r under caller (on v bytes b)

answered_length : (r : BlockType) (v : ℕ) → length (answered r v) ≡ arity r
answered_length None v = refl
answered_length (Some t) v = refl

taken_ends : (t : FuncType) (ops : List Value) (o : Option (List Value × List Value)) (k : List Value → List Value → Run) → arguments (length t.params) [] ops ≡ o → ((args rest : List Value) → EndsWith (λ n. n ≡ arity (result_of t) + length rest) (k args rest)) → EndsWith (AfterCall (Some t) (length ops)) (with_arguments o k)
taken_ends t ops None k e h = tt
taken_ends t ops (Some a) k e h =
    let l = arguments_over (length t.params) [] ops [] a e in
    ends_weaker (λ n. n ≡ arity (result_of t) + length a.1) (AfterCall (Some t) (length ops)) (k a.0 a.1) (λ n q. (omega (arith, l.1), omega (arith, l.1, q))) (h a.0 a.1)

too_deep_ends : (f : Function) (t : FuncType) (ops : List Value) (s : State) → EndsWith (AfterCall (Some t) (length ops)) (too_deep f t ops s)
too_deep_ends f t ops s = taken_ends t ops (arguments (length t.params) [] ops) (λ args rest. Trap CallDepth s.meter) refl (λ args rest. tt)

enter_ends : (source : Module) (go : Calls) (f : Function) (t : FuncType) (ops : List Value) (s : State) → EndsWith (AfterCall (Some t) (length ops)) (enter source go f t ops s)
enter_ends source go f t ops s =
    taken_ends t ops (arguments (length t.params) [] ops) (λ args rest. finish (result_of t) rest s (exec source go f.body [] (record s { locals = start_locals f args }))) refl
    (λ args rest. finish_ends (result_of t) rest s (exec source go f.body [] (record s { locals = start_locals f args })))

own_ends : (o : Option Function) (k : Function → FuncType → List Value → State → Run) (t : FuncType) (ops : List Value) (s : State) → ((f : Function) → EndsWith (AfterCall (Some t) (length ops)) (k f t ops s)) → EndsWith (AfterCall (Some t) (length ops)) (own_call o k t ops s)
own_ends None k t ops s h = tt
own_ends (Some f) k t ops s h = h f

any_ends : (source : Module) (b : Bool) (o : Option FuncType) (k : Function → FuncType → List Value → State → Run) (f : ℕ) (ops : List Value) (s : State) → ((g : Function) (t : FuncType) → EndsWith (AfterCall (Some t) (length ops)) (k g t ops s)) → EndsWith (AfterCall o (length ops)) (any_call source k b o f ops s)
any_ends source b None k f ops s h = tt
any_ends source false (Some t) k f ops s h = own_ends (slice_get source.functions (f - length source.imports)) k t ops s (λ g. h g t)
any_ends source true (Some t) k f ops s h =
    taken_ends t ops (arguments (length t.params) [] ops) (λ args rest. Ask f (map number_of args) s.store.memory.bytes s.meter (λ v bytes b. Normal (answered (result_of t) v ++ rest) (record s { store = with_bytes bytes s.store; meter = b }))) refl
    (λ args rest v bytes b. omega (arith, length-append (answered (result_of t) v) rest, answered_length (result_of t) v))

pub call_ends : (source : Module) (room : ℕ) → CallsEnd source (call_of source room)
call_ends source zero f ops s = any_ends source (is_import source f) (function_type source f) too_deep f ops s (λ g t. too_deep_ends g t ops s)
call_ends source (suc room) f ops s = any_ends source (is_import source f) (function_type source f) (enter source (call_of source room)) f ops s (λ g t. enter_ends source (call_of source room) g t ops s)

-- the end of a function's code, back to the caller
module _ (source : Module) (flat : FlatCode) (frames : List Frame) (last p : ℕ) (rest under : List Value) (caller : State) (ends : slice_get flat.steps last ≡ Some step.End) where
  back : (m : Machine) (B : ℕ) (s : State) (o : Option (List Value)) → s.left ≤ B → Carries source flat m last (rest ++ under) s ((record { pc = p + 1; locals = caller.locals }) ∷ frames) o → Returns source flat frames B m (p + 1) under (onto rest (back_in caller s) o)
  back m B s None le h = tt
  back m B s (Some vs) le h =
      let ending = at last (vs ++ (rest ++ under)) s ((record { pc = p + 1; locals = caller.locals }) ∷ frames) in
      (le, subst (λ l. Comes source flat m (at (p + 1) l (back_in caller s) frames)) (sym (append_assoc vs rest under)) (joined h (more (ap (λ o. moves source flat o ending) ends) here)))

  whole_back : (m : Machine) (s : State) (r : BlockType) (vs : List Value) → Comes source flat m (at last (vs ++ (rest ++ under)) s ((record { pc = p + 1; locals = caller.locals }) ∷ frames)) → Carries source flat m last (rest ++ under) s ((record { pc = p + 1; locals = caller.locals }) ∷ frames) (whole r vs)
  whole_back m s None [] h = h
  whole_back m s None (v ∷ vs) h = tt
  whole_back m s (Some t) [] h = tt
  whole_back m s (Some t) (v ∷ []) h = h
  whole_back m s (Some t) (v ∷ w ∷ vs) h = tt

  finish_returns : (B : ℕ) (m : Machine) (t : FuncType) (run : Run) → Follows source flat (home_of last t) (rest ++ under) ((record { pc = p + 1; locals = caller.locals }) ∷ frames) B m last (rest ++ under) (home_of last t ∷ []) ((rest ++ under) ∷ []) run → Returns source flat frames B m (p + 1) under (finish (result_of t) rest caller run)
  finish_returns B m t (Normal ops s) h = back m B s (whole (result_of t) ops) h.0 (whole_back m s (result_of t) ops h.1)
  finish_returns B m t (Branch zero ops s) h = back m B s (carried (result_of t) ops) (omega (arith, h.0)) h.1
  finish_returns B m t (Branch (suc d) ops s) h = tt
  finish_returns B m t (Return ops s) h = back m B s (carried (result_of t) ops) (omega (arith, h.0)) h.1
  finish_returns B m t (Trap kind meter) h = h
  finish_returns B m t (Spent meter) h = h
  finish_returns B m t Stuck h = tt
  finish_returns B m t (Ask f args memory meter on) h =
      (h.0, h.1, h.2, λ v bytes b. finish_returns B (resumed h.0 v bytes b h.1) t (on v bytes b) (h.3 v bytes b))

comes_returns : (source : Module) (flat : FlatCode) (frames : List Frame) (B : ℕ) (m n : Machine) (q : ℕ) (under : List Value) (r : Run) → Comes source flat m n → Returns source flat frames B n q under r → Returns source flat frames B m q under r
comes_returns source flat frames B m n q under (Normal ops s) c h = (h.0, joined c h.1)
comes_returns source flat frames B m n q under (Branch k ops s) c h = h
comes_returns source flat frames B m n q under (Return ops s) c h = h
comes_returns source flat frames B m n q under (Trap kind meter) c h = (h.0, joined c h.1, h.2)
comes_returns source flat frames B m n q under (Spent meter) c h = (h.0, joined c h.1, h.2)
comes_returns source flat frames B m n q under Stuck c h = tt
comes_returns source flat frames B m n q under (Ask f args memory meter on) c h = (h.0, h.1, asks_after c h.2, h.3)

module _ (source : Module) (flat : FlatCode) (compiled : IsCompiled source flat) where
  -- with the arguments taken
  taken_returns : (n : ℕ) (frames : List Frame) (B q : ℕ) (m : Machine) (ops under : List Value) (o : Option (List Value × List Value)) (go : List Value → List Value → Run) (moved : List Value → List Value → Moved) → arguments n [] ops ≡ o → move source flat m ≡ taking (arguments n [] (ops ++ under)) moved → ((args rest : List Value) → move source flat m ≡ moved args (rest ++ under) → Returns source flat frames B m q under (go args rest)) → Returns source flat frames B m q under (with_arguments o go)
  taken_returns n frames B q m ops under None go moved e mv h = tt
  taken_returns n frames B q m ops under (Some a) go moved e mv h =
      h a.0 a.1 (mv ∙ ap (λ x. taking x moved) (arguments_over n [] ops under a e).0)

  ask_returns : (t : FuncType) (f p : ℕ) (frames : List Frame) (ops under : List Value) (s : State) (m : Machine) → move source flat m ≡ calls source flat true (Some t) f (at p (ops ++ under) s frames) → Returns source flat frames s.left m (p + 1) under (ask t f ops s)
  ask_returns t f p frames ops under s m mv =
      let a = at p (ops ++ under) s frames in
      taken_returns (length t.params) frames s.left (p + 1) m ops under (arguments (length t.params) [] ops)
      (λ args rest. Ask f (map number_of args) s.store.memory.bytes s.meter (λ v bytes b. Normal (answered (result_of t) v ++ rest) (record s { store = with_bytes bytes s.store; meter = b })))
      (λ args rest. Asks f (map number_of args) (result_of t) (on_with rest a)) refl mv
      (λ args rest e.
      let n = at (p + 1) (rest ++ under) s frames in
      let stops : StopsToAsk source flat m f (map number_of args) s.store.memory.bytes s.meter (result_of t) n = record { stop = m; comes = here; asks = e; bytes = refl; budget = refl } in (
        result_of t,
        n,
        stops,
        λ v bytes b.
            let u : State = record s { store = with_bytes bytes s.store; meter = b } in
            (omega arith, subst (λ l. Comes source flat (resumed (result_of t) v bytes b n) (at (p + 1) l u frames)) (sym (append_assoc (answered (result_of t) v) rest under)) here),
      ))

  own_returns : (t : FuncType) (p i : ℕ) (frames : List Frame) (ops under : List Value) (s : State) (m : Machine) (go : Function → FuncType → List Value → State → Run) (o : Option Function) → slice_get source.functions i ≡ o → move source flat m ≡ calls_own o (slice_get flat.entries i) t (at p (ops ++ under) s frames) → ((f : Function) (e : ℕ) → slice_get source.functions i ≡ Some f → IsFunctionAt source flat f e → move source flat m ≡ calls_own (Some f) (Some e) t (at p (ops ++ under) s frames) → Returns source flat frames s.left m (p + 1) under (go f t ops s)) → Returns source flat frames s.left m (p + 1) under (own_call o go t ops s)
  own_returns t p i frames ops under s m go None e mv h = tt
  own_returns t p i frames ops under s m go (Some f) e mv h =
      let found = function_at source flat source.functions flat.entries i f compiled.functions e in
      h f found.0 e found.2 (mv ∙ ap (λ x. calls_own (Some f) x t (at p (ops ++ under) s frames)) found.1)

  any_returns : (b : Bool) (o : Option FuncType) (p f : ℕ) (frames : List Frame) (ops under : List Value) (s : State) (m : Machine) (go : Function → FuncType → List Value → State → Run) → is_import source f ≡ b → function_type source f ≡ o → move source flat m ≡ calls source flat b o f (at p (ops ++ under) s frames) → ((g : Function) (t : FuncType) (e : ℕ) → slice_get source.types g.type_index ≡ Some t → IsFunctionAt source flat g e → move source flat m ≡ calls_own (Some g) (Some e) t (at p (ops ++ under) s frames) → Returns source flat frames s.left m (p + 1) under (go g t ops s)) → Returns source flat frames s.left m (p + 1) under (any_call source go b o f ops s)
  any_returns b None p f frames ops under s m go ib e mv h = tt
  any_returns true (Some t) p f frames ops under s m go ib e mv h = ask_returns t f p frames ops under s m mv
  any_returns false (Some t) p f frames ops under s m go ib e mv h =
      let own = own_function source f t ib e in
      own_returns t p (f - length source.imports) frames ops under s m go (slice_get source.functions (f - length source.imports)) refl mv
      (λ g pc g_is isat step.
      let q : own.0 ≡ g = let a = own.1 in cc in
      h g t pc (subst (λ (x : Function). slice_get source.types x.type_index ≡ Some t) q own.2) isat step)

  -- one call more
  enter_returns : (go : Calls) (room p : ℕ) (frames : List Frame) (ops under : List Value) (s : State) (m : Machine) (f : Function) (t : FuncType) (e : ℕ) → CallsEnd source go → ((fs : List Frame) → room ≡ room_of fs → CallsFollow source flat go fs) → suc room ≡ room_of frames → slice_get source.types f.type_index ≡ Some t → IsFunctionAt source flat f e → move source flat m ≡ calls_own (Some f) (Some e) t (at p (ops ++ under) s frames) → Returns source flat frames s.left m (p + 1) under (enter source go f t ops s)
  enter_returns go room p frames ops under s m f t e go_ends go_follows more_room known isat mv =
      let a = at p (ops ++ under) s frames in
      let within : List Frame = (record { pc = p + 1; locals = s.locals }) ∷ frames in
      let q : isat.type_ ≡ t = let k = isat.known in cc in
      taken_returns (length t.params) frames s.left (p + 1) m ops under (arguments (length t.params) [] ops)
      (λ args rest. finish (result_of t) rest s (exec source go f.body [] (record s { locals = start_locals f args })))
      (λ args rest. enters (room_of frames) f e args rest a) refl mv
      (λ args rest entered.
      let u : State = record s { locals = start_locals f args } in
      let goes = entered ∙ ap (λ n. enters n f e args (rest ++ under) a) (sym more_room) in
      let begin = at e (rest ++ under) u within in
      let body = sim source flat go go_ends (home_of isat.last isat.type_) (rest ++ under) within (go_follows within (omega arith)) refl f.body e isat.last 0 (home_of isat.last isat.type_ ∷ []) ((rest ++ under) ∷ []) [] (rest ++ under) u isat.body ([], refl, omega arith, ([], refl)) (omega arith) in
      let body' : Follows source flat (home_of isat.last t) (rest ++ under) within s.left begin isat.last (rest ++ under) (home_of isat.last t ∷ []) ((rest ++ under) ∷ []) (exec source go f.body [] u) =
      subst (λ (x : FuncType). Follows source flat (home_of isat.last x) (rest ++ under) within s.left begin isat.last (rest ++ under) (home_of isat.last x ∷ []) ((rest ++ under) ∷ []) (exec source go f.body [] u)) q body in
      comes_returns source flat frames s.left m begin (p + 1) under (finish (result_of t) rest s (exec source go f.body [] u)) (more goes here)
      (finish_returns source flat frames isat.last p rest under s isat.ends s.left begin t (exec source go f.body [] u) body'))

  too_deep_returns : (p : ℕ) (frames : List Frame) (ops under : List Value) (s : State) (m : Machine) (f : Function) (t : FuncType) (e : ℕ) → zero ≡ room_of frames → move source flat m ≡ calls_own (Some f) (Some e) t (at p (ops ++ under) s frames) → Returns source flat frames s.left m (p + 1) under (too_deep f t ops s)
  too_deep_returns p frames ops under s m f t e no_room mv =
      let a = at p (ops ++ under) s frames in
      taken_returns (length t.params) frames s.left (p + 1) m ops under (arguments (length t.params) [] ops)
      (λ args rest. Trap CallDepth s.meter) (λ args rest. enters (room_of frames) f e args rest a) refl mv
      (λ args rest entered. (m, here, entered ∙ ap (λ n. enters n f e args (rest ++ under) a) (sym no_room)))

  -- The machine does what each call means, while so many more calls may be open.
  pub calls_follow : (room : ℕ) (frames : List Frame) → room ≡ room_of frames → CallsFollow source flat (call_of source room) frames
  calls_follow zero frames no_room f p ops under s m mv =
      any_returns (is_import source f) (function_type source f) p f frames ops under s m too_deep refl refl mv
      (λ g t e known isat own. too_deep_returns p frames ops under s m g t e no_room own)
  calls_follow (suc room) frames more_room f p ops under s m mv =
      any_returns (is_import source f) (function_type source f) p f frames ops under s m (enter source (call_of source room)) refl refl mv
      (λ g t e known isat own. enter_returns (call_of source room) room p frames ops under s m g t e (call_ends source room) (calls_follow room) more_room known isat own)
