-- The machine of a valid module does what an export means.
use Rattle.std.proofs.Common.{◌≡◌, ℕ, zero, suc, ◌+◌, ◌-◌, ◌*◌, ◌<◌, true, false, List, [], ◌∷◌, ◌++◌, length, map, Option, Some, None, refl, sym, ap, ◌∙◌, subst, arith, append_assoc}
use Rattle.std.specs.Prelude.{slice_get, reverse, replicate, is_some}
use Rattle.std.proofs.lemmas.List.{length-reverse, reverse-reverse}
use Rattle.std.proofs.lemmas.Option.{slice_get_within}
use Rattle.std.proofs.lemmas.Grind.{reverse_onto}
use Rattle.budget_meter.specs.Meter.{Meter}
use Rattle.wasm_spec.specs.declared.types.ValueType.{ValueType}
use Rattle.wasm_spec.specs.declared.types.ValueType.TheVariants.{I64}
use Rattle.wasm_spec.specs.declared.types.FuncType.{FuncType}
use Rattle.wasm_spec.specs.declared.values.Value.{Value}
use Rattle.wasm_spec.specs.declared.values.Value.TheVariants as value
use Rattle.wasm_spec.specs.declared.module.Import.{Import}
use Rattle.wasm_spec.specs.declared.module.Function.{Function}
use Rattle.wasm_spec.specs.declared.module.Module.{Module}
use Rattle.wasm_spec.specs.Typing.{function_type, result_of, Typed}
use Rattle.wasm_spec.specs.Stores.{number_of, answered, Store, with_bytes}
use Rattle.wasm_spec.specs.Runs.{State, Run, Normal, Branch, Return, Trap, Spent, Stuck, Ask, carried, whole, onto}
use Rattle.wasm_spec.specs.Meaning.{exec, arguments, with_arguments, back_in, finish, start_locals, enter, own_call, is_import, any_call, call_of, MOST_CALLS, beginning, meaning}
use Rattle.wasm_spec.proofs.Lemmas.{Begins, CallGood, meaning_good, own_function}
use Rattle.wasm_code.specs.declared.step.Step.TheVariants as step
use Rattle.wasm_code.specs.declared.step.FlatCode.{FlatCode}
use Rattle.wasm_code.specs.Placed.{home_of, IsFunctionAt, IsCompiled}
use Rattle.wasm_machine.specs.Machine.{Machine, Asks, room_of, taking, asks_from_outside, on_with, moves, move, resumed}
use Rattle.wasm_machine.specs.Behaves.{here, StopsToAsk, Behaves, Stands}
use Rattle.wasm_machine.proofs.Sim.{at, Carries, Follows, whole_carries}
use Rattle.wasm_machine.proofs.SimCode.{sim}
use Rattle.wasm_machine.proofs.SimCalls.{function_at, call_ends, calls_follow}

-- the arguments of a call that has no other operands

reverse_more : (v : Value) (vs ws : List Value) → reverse vs ++ (v ∷ ws) ≡ reverse (v ∷ vs) ++ ws
reverse_more v vs ws = sym (append_assoc (reverse vs) (v ∷ []) ws) ∙ ap (λ x. x ++ ws) (sym (reverse_onto vs v []))

append-nil : (vs : List Value) → vs ++ [] ≡ vs
append-nil [] = refl
append-nil (v ∷ vs) = ap (λ x. v ∷ x) (append-nil vs)

arguments_prefix : (vs args rest : List Value) → arguments (length vs) args (vs ++ rest) ≡ Some (reverse vs ++ args, rest)
arguments_prefix [] args rest = refl
arguments_prefix (v ∷ vs) args rest = arguments_prefix vs (v ∷ args) rest ∙ ap (λ x. Some (x, rest)) (reverse_more v vs args)

arguments_all : (n : ℕ) (vs : List Value) → n ≡ length vs → arguments n [] (reverse vs) ≡ Some (vs, [])
arguments_all n vs e =
    let l : n ≡ length (reverse vs) = e ∙ sym (length-reverse vs) in
    let prefix = arguments_prefix (reverse vs) [] [] in
    ap (λ k. arguments k [] (reverse vs)) l ∙ ap (λ x. arguments (length (reverse vs)) [] x) (sym (append-nil (reverse vs))) ∙ prefix
    ∙ ap (λ x. Some (x, [])) (append-nil (reverse (reverse vs)) ∙ reverse-reverse vs)

length-replicate : (n : ℕ) (t : ValueType) → length (replicate n t) ≡ n
length-replicate zero t = refl
length-replicate (suc n) t = ap suc (length-replicate n t)

words-length : (args : List ℕ) → length (map value.I64 args) ≡ length args
words-length [] = refl
words-length (n ∷ args) = ap suc (words-length args)

params_length : (t : FuncType) (args : List ℕ) → t.params ≡ replicate (length args) I64 → length t.params ≡ length (map value.I64 args)
params_length t args e = ap length e ∙ length-replicate (length args) I64 ∙ sym (words-length args)

-- where a run begins

-- in a function of the module's own
abbrev pub started_own : Function → ℕ → List ℕ → Store → Meter → Machine
started_own f entry args store meter = at entry [] (record (beginning store meter) { locals = start_locals f (map value.I64 args) }) []

-- before the call of an import
abbrev pub started_import : ℕ → List ℕ → Store → Meter → Machine
started_import f args store meter = at (2 * f) (reverse (map value.I64 args)) (beginning store meter) []

module _ (source : Module) (flat : FlatCode) (last : ℕ) (ends : slice_get flat.steps last ≡ Some step.End) (us : List ValueType) (caller : State) where
  last_behaves : (m : Machine) (s : State) (o : Option (List Value)) → Carries source flat m last [] s [] o → CallGood source caller.locals us (onto [] (back_in caller s) o) → Behaves source flat m (onto [] (back_in caller s) o)
  last_behaves m s None h g = g
  last_behaves m s (Some vs) h g = (at last (vs ++ []) s [], h, ap (λ o. moves source flat o (at last (vs ++ []) s [])) ends)

  first_behaves : (B : ℕ) (m : Machine) (t : FuncType) (run : Run) → Follows source flat (home_of last t) [] [] B m last [] (home_of last t ∷ []) ([] ∷ []) run → CallGood source caller.locals us (finish (result_of t) [] caller run) → Behaves source flat m (finish (result_of t) [] caller run)
  first_behaves B m t (Normal ops s) h g = last_behaves m s (whole (result_of t) ops) (whole_carries source flat (home_of last t) [] [] m last [] s (result_of t) ops h.1) g
  first_behaves B m t (Branch zero ops s) h g = last_behaves m s (carried (result_of t) ops) h.1 g
  first_behaves B m t (Branch (suc k) ops s) h g = g
  first_behaves B m t (Return ops s) h g = last_behaves m s (carried (result_of t) ops) h.1 g
  first_behaves B m t (Trap kind meter) h g = h
  first_behaves B m t (Spent meter) h g = h
  first_behaves B m t Stuck h g = g
  first_behaves B m t (Ask f args memory meter on) h g =
      (h.0, h.1, h.2, λ v bytes b. first_behaves B (resumed h.0 v bytes b h.1) t (on v bytes b) (h.3 v bytes b) (g.1 v bytes b))

most_is : MOST_CALLS ≡ 512
unfolding MOST_CALLS
most_is = refl

module _ (source : Module) (flat : FlatCode) (compiled : IsCompiled source flat) (typed : Typed source) where
  own_is : (f : ℕ) (own : Function) (t : FuncType) (args : List ℕ) (store : Store) (b : Meter) → is_import source f ≡ false → function_type source f ≡ Some t → slice_get source.functions (f - length source.imports) ≡ Some own → t.params ≡ replicate (length args) I64
      → meaning source f args store b ≡ finish (result_of t) [] (beginning store b) (exec source (call_of source 511) own.body [] (record (beginning store b) { locals = start_locals own (map value.I64 args) }))
  own_is f own t args store b ib e is params =
      let ops = reverse (map value.I64 args) in
      let s = beginning store b in
      let go = enter source (call_of source 511) in
      ap (λ n. call_of source n f ops s) most_is
      ∙ ap (λ i. any_call source go i (function_type source f) f ops s) ib
      ∙ ap (λ o. any_call source go false o f ops s) e
      ∙ ap (λ o. own_call o go t ops s) is
      ∙ ap (λ a. with_arguments a (λ args under. finish (result_of t) under s (exec source (call_of source 511) own.body [] (record s { locals = start_locals own args })))) (arguments_all (length t.params) (map value.I64 args) (params_length t args params))

  pub own_starts : (f : ℕ) (own : Function) (entry : ℕ) (args : List ℕ) (store : Store) (meter : Meter) → Begins source (length args) f store → is_import source f ≡ false → slice_get source.functions (f - length source.imports) ≡ Some own → slice_get flat.entries (f - length source.imports) ≡ Some entry → Stands source flat (started_own own entry args store meter) (meaning source f args store)
  own_starts f own entry args store meter begins ib is entry_is = λ b.
      let t = begins.type_ in
      let found = function_at source flat source.functions flat.entries (f - length source.imports) own compiled.functions is in
      let same : found.0 ≡ entry = let a = found.1 in cc in
      let isat = subst (IsFunctionAt source flat own) same found.2 in
      let mine = own_function source f t ib begins.known in
      let mine_is : mine.0 ≡ own = let a = mine.1 in cc in
      let known : slice_get source.types own.type_index ≡ Some t = subst (λ (x : Function). slice_get source.types x.type_index ≡ Some t) mine_is mine.2 in
      let q : isat.type_ ≡ t = let k = isat.known in cc in
      let caller = beginning store b in
      let s : State = record caller { locals = start_locals own (map value.I64 args) } in
      let go = call_of source 511 in
      let room : 511 ≡ room_of [] = let k = most_is in omega arith in
      let follows = sim source flat go (call_ends source 511) (home_of isat.last isat.type_) [] [] (calls_follow source flat compiled 511 [] room) refl own.body entry isat.last 0 (home_of isat.last isat.type_ ∷ []) ([] ∷ []) [] [] s isat.body ([], refl, refl, ([], refl)) refl in
      let follows' = subst (λ (x : FuncType). Follows source flat (home_of isat.last x) [] [] s.left (at entry [] s []) isat.last [] (home_of isat.last x ∷ []) ([] ∷ []) (exec source go own.body [] s)) q follows in
      let whole_run = own_is f own t args store b ib begins.known is begins.params in
      let good = subst (CallGood source [] (I64 ∷ [])) whole_run (meaning_good source args f store b typed begins) in
      subst (Behaves source flat (at entry [] s [])) (sym whole_run)
      (first_behaves source flat isat.last isat.ends (I64 ∷ []) caller s.left (at entry [] s []) t (exec source go own.body [] s) follows' good)

  is_below : (o : Option Import) (f : ℕ) → slice_get source.imports f ≡ o → is_some o ≡ true → f < length source.imports
  is_below None f e h = cc
  is_below (Some i) f e h = slice_get_within source.imports f i e

  pub import_starts : (f : ℕ) (args : List ℕ) (store : Store) (meter : Meter) → Begins source (length args) f store → is_import source f ≡ true → Stands source flat (started_import f args store meter) (meaning source f args store)
  import_starts f args store meter begins ib = λ b.
      let t = begins.type_ in
      let ops = reverse (map value.I64 args) in
      let vs = map value.I64 args in
      let s = beginning store b in
      let go = enter source (call_of source 511) in
      let placed = compiled.imports f (is_below (slice_get source.imports f) f refl ib) in
      let m = at (2 * f) ops s [] in
      let n = at (2 * f + 1) [] s [] in
      let all = arguments_all (length t.params) vs (params_length t args begins.params) in
      let on = λ (v : ℕ) (bytes : List ℕ) (c : Meter). Normal (answered (result_of t) v ++ []) (record s { store = with_bytes bytes s.store; meter = c }) in
      let run : meaning source f args store b ≡ Ask f (map number_of vs) s.store.memory.bytes s.meter on =
      ap (λ n. call_of source n f ops s) most_is
      ∙ ap (λ i. any_call source go i (function_type source f) f ops s) ib
      ∙ ap (λ o. any_call source go true o f ops s) begins.known
      ∙ ap (λ a. with_arguments a (λ args under. Ask f (map number_of args) s.store.memory.bytes s.meter (λ v bytes c. Normal (answered (result_of t) v ++ under) (record s { store = with_bytes bytes s.store; meter = c })))) all in
      let mv : move source flat m ≡ Asks f (map number_of vs) (result_of t) n =
      ap (λ o. moves source flat o m) placed.asks
      ∙ ap (λ o. asks_from_outside o f m) begins.known
      ∙ ap (λ a. taking a (λ args under. Asks f (map number_of args) (result_of t) (on_with under m))) all in
      let stops : StopsToAsk source flat m f (map number_of vs) s.store.memory.bytes s.meter (result_of t) n = record { stop = m; comes = here; asks = mv; bytes = refl; budget = refl } in
      subst (Behaves source flat m) (sym run) (
        result_of t,
        n,
        stops,
        λ v bytes c.
            (resumed (result_of t) v bytes c n, here, ap (λ o. moves source flat o (resumed (result_of t) v bytes c n)) placed.ends),
      )
