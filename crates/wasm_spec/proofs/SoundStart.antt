-- A run that is begun on a valid module is never stuck.
use Rattle.std.proofs.Common.{◌≡◌, ℕ, zero, suc, ◌+◌, ◌<◌, Bool, true, false, List, [], ◌∷◌, ◌++◌, length, map, take, drop, Option, Some, None, refl, sym, ap, ◌∙◌, subst, append_assoc}
use Rattle.std.specs.Prelude.{slice_get, reverse, replicate, option_to_list, if◌then◌else◌}
use Rattle.std.specs.List.{AllByRecursion}
use Rattle.std.proofs.lemmas.Bool.{and_parts}
use Rattle.std.proofs.lemmas.Grind.{reverse_onto}
use Rattle.budget_meter.specs.Meter.{Meter}
use Rattle.wasm_spec.specs.declared.types.ValueType.{ValueType}
use Rattle.wasm_spec.specs.declared.types.ValueType.TheVariants.{I64}
use Rattle.wasm_spec.specs.declared.types.FuncType.{FuncType}
use Rattle.wasm_spec.specs.declared.types.TableType.{TableType}
use Rattle.wasm_spec.specs.declared.values.Value.{Value}
use Rattle.wasm_spec.specs.declared.values.Value.TheVariants as value
use Rattle.wasm_spec.specs.declared.instructions.Plain.{Plain}
use Rattle.wasm_spec.specs.declared.instructions.Plain.TheVariants as op
use Rattle.wasm_spec.specs.declared.module.Global.{Global}
use Rattle.wasm_spec.specs.declared.module.Element.{Element}
use Rattle.wasm_spec.specs.declared.module.Module.{Module}
use Rattle.wasm_spec.specs.Code.{Code, end, plain}
use Rattle.wasm_spec.specs.Typing.{function_indices, function_type, result_of, constant_of, constant_type, GlobalValid, ElementValid, Typed}
use Rattle.wasm_spec.specs.Stores.{type_of, Store}
use Rattle.wasm_spec.specs.Meaning.{same_types, MOST_CALLS, beginning, meaning}
use Rattle.wasm_spec.specs.Instances.{constant_plain, constant_value, offset_of, first_values, first_globals, table_of, empty_store, put, segments_fit, with_elements, filled, has_arity, WrongArity, Segment, Ready, start_filled, start_function, function_named, start_of}
use Rattle.wasm_spec.proofs.Sound.{HasTypes, global_types, ElementKnown, StoreTyped, CallGood, same_types_are}
use Rattle.wasm_spec.proofs.SoundCalls.{call_good}

-- what globals begin with

abbrev IsConstant : Option Value → ValueType → Type 0
IsConstant o t = (v : Value) × (o ≡ Some v) × (type_of v ≡ t)

constant_plain_is : (p : Plain) (t : ValueType) → constant_of [] p ≡ Some t → IsConstant (constant_plain [] p) t
constant_plain_is (op.I32Const n) t e = (value.I32 n, refl, cc)
constant_plain_is (op.I64Const n) t e = (value.I64 n, refl, cc)
constant_plain_is _ t e = cc

constant_is : (c : Code) (t : ValueType) → constant_type [] c ≡ Some t → IsConstant (constant_value [] c) t
constant_is (plain p end) t e = constant_plain_is p t e
constant_is _ t e = cc

globals_typed : (gs : List Global) → AllByRecursion GlobalValid gs → HasTypes (first_values gs) (global_types gs)
globals_typed [] h = tt
globals_typed (g ∷ gs) h =
    let c = constant_is g.init g.value_type h.0 in
    subst (λ o. HasTypes (option_to_list o ++ first_values gs) (g.value_type ∷ global_types gs)) (sym c.1) (c.2, globals_typed gs h.1)

-- the functions in a table

module _ {A : Type 0} (P : A → Type 0) where
  all_append : (xs ys : List A) → AllByRecursion P xs → AllByRecursion P ys → AllByRecursion P (xs ++ ys)
  all_append [] ys h g = g
  all_append (x ∷ xs) ys h g = (h.0, all_append xs ys h.1 g)

  all_take : (n : ℕ) (xs : List A) → AllByRecursion P xs → AllByRecursion P (take n xs)
  all_take zero xs h = tt
  all_take (suc n) [] h = tt
  all_take (suc n) (x ∷ xs) h = (h.0, all_take n xs h.1)

  all_drop : (n : ℕ) (xs : List A) → AllByRecursion P xs → AllByRecursion P (drop n xs)
  all_drop zero xs h = h
  all_drop (suc n) [] h = tt
  all_drop (suc n) (x ∷ xs) h = all_drop n xs h.1

  all_replicate : (n : ℕ) (x : A) → P x → AllByRecursion P (replicate n x)
  all_replicate zero x h = tt
  all_replicate (suc n) x h = (h, all_replicate n x h)

  all_put : (xs : List A) (o : Option ℕ) (ys : List A) → AllByRecursion P xs → AllByRecursion P ys → AllByRecursion P (put xs o ys)
  all_put xs None ys h g = h
  all_put xs (Some k) ys h g =
      all_append (take k xs ++ ys) (drop (k + length ys) xs) (all_append (take k xs) ys (all_take k xs h) g) (all_drop (k + length ys) xs h)

set_known : (m : Module) (fs : List ℕ) → AllByRecursion (λ f. f < length (function_indices m)) fs → AllByRecursion (ElementKnown m) (map Some fs)
set_known m [] h = tt
set_known m (f ∷ fs) h = (h.0, set_known m fs h.1)

elements_known : (m : Module) (globals : List Value) (es : List Element) (table : List (Option ℕ)) → AllByRecursion (ElementValid m) es → AllByRecursion (ElementKnown m) table → AllByRecursion (ElementKnown m) (with_elements globals table es)
elements_known m globals [] table h k = k
elements_known m globals (e ∷ es) table h k =
    elements_known m globals es (put table (offset_of globals e.offset) (map Some e.functions)) h.1
    (all_put (ElementKnown m) table (offset_of globals e.offset) (map Some e.functions) k (set_known m e.functions h.0.2))

empty_known : (m : Module) (o : Option TableType) → AllByRecursion (ElementKnown m) (table_of o)
empty_known m None = tt
empty_known m (Some t) = all_replicate (ElementKnown m) t.limits.min None tt

pub filled_typed : (m : Module) → Typed m → StoreTyped m (filled m (empty_store m))
filled_typed m typed = (
  globals_typed m.globals typed.outside.globals,
  elements_known m (first_globals m) m.elements (table_of (slice_get m.tables 0)) typed.outside.elements (empty_known m (slice_get m.tables 0)),
)

-- the export

-- what a run begins with
pub record Begins (m : Module) (arity f : ℕ) (store : Store) : Type 0 where
  pub type_ : FuncType
  pub known : function_type m f ≡ Some type_
  pub params : type_.params ≡ replicate arity I64
  pub results : type_.results ≡ I64 ∷ []
  pub store_is : store ≡ filled m (empty_store m)

filled_is : (m : Module) (b : Bool) (f g : ℕ) (s store : Store) → (if b then Ready f (filled m s) else Segment) ≡ Ready g store → (f ≡ g) × (store ≡ filled m s)
filled_is m true f g s store e = (cc, cc)
filled_is m false f g s store e = cc

arity_is : (m : Module) (n : ℕ) (o : Option FuncType) (f : ℕ) (store : Store) → function_type m f ≡ o → has_arity n o ≡ true → store ≡ filled m (empty_store m) → Begins m n f store
arity_is m n None f store e h q = cc
arity_is m n (Some t) f store e h q =
    let p = and_parts (same_types t.params (replicate n I64)) (same_types t.results (I64 ∷ [])) h in
    record { type_ = t; known = e; params = same_types_are t.params (replicate n I64) p.0; results = same_types_are t.results (I64 ∷ []) p.1; store_is = q }

chosen_is : (m : Module) (n : ℕ) (b : Bool) (f g : ℕ) (store : Store) → has_arity n (function_type m f) ≡ b → (if b then start_filled m f (empty_store m) else WrongArity) ≡ Ready g store → Begins m n g store
chosen_is m n false f g store h e = cc
chosen_is m n true f g store h e =
    let q = filled_is m (segments_fit m (empty_store m)) f g (empty_store m) store e in
    subst (λ k. Begins m n k store) q.0 (arity_is m n (function_type m f) f store refl h q.1)

function_is : (m : Module) (n : ℕ) (o : Option ℕ) (g : ℕ) (store : Store) → start_function m n o ≡ Ready g store → Begins m n g store
function_is m n None g store e = cc
function_is m n (Some f) g store e = chosen_is m n (has_arity n (function_type m f)) f g store refl e

pub begins : (m : Module) (name : List ℕ) (n f : ℕ) (store : Store) → start_of m name n ≡ Ready f store → Begins m n f store
begins m name n f store e = function_is m n (function_named name m.exports) f store e

-- the arguments

words_typed : (args : List ℕ) → HasTypes (map value.I64 args) (replicate (length args) I64)
words_typed [] = tt
words_typed (n ∷ args) = (refl, words_typed args)

reverse_typed : (vs ws : List Value) (ts us : List ValueType) → HasTypes vs ts → HasTypes ws us → HasTypes (reverse vs ++ ws) (reverse ts ++ us)
reverse_typed [] ws [] us h g = g
reverse_typed [] ws (t ∷ ts) us h g = absurd h
reverse_typed (v ∷ vs) ws [] us h g = absurd h
reverse_typed (v ∷ vs) ws (t ∷ ts) us h g =
    subst (λ x. HasTypes (reverse (v ∷ vs) ++ ws) x) (more t ts us)
    (subst (λ x. HasTypes x (reverse ts ++ (t ∷ us))) (more v vs ws) (reverse_typed vs (v ∷ ws) ts (t ∷ us) h.1 (h.0, g)))
  where
    more : {A : Type 0} (x : A) (xs ys : List A) → reverse xs ++ (x ∷ ys) ≡ reverse (x ∷ xs) ++ ys
    more x xs ys = sym (append_assoc (reverse xs) (x ∷ []) ys) ∙ ap (λ zs. zs ++ ys) (sym (reverse_onto xs x []))

append-nil : {A : Type 0} (xs : List A) → xs ++ [] ≡ xs
append-nil [] = refl
append-nil (x ∷ xs) = ap (λ ys. x ∷ ys) (append-nil xs)

args_typed : (t : FuncType) (args : List ℕ) → t.params ≡ replicate (length args) I64 → HasTypes (reverse (map value.I64 args)) (reverse t.params ++ [])
args_typed t args e =
    subst (λ vs. HasTypes vs (reverse t.params ++ [])) (append-nil (reverse (map value.I64 args)))
    (reverse_typed (map value.I64 args) [] t.params [] (subst (HasTypes (map value.I64 args)) (sym e) (words_typed args)) tt)

-- An export that may be called gives one value of 64 bits where it ends normally, and is never stuck.
pub meaning_good : (m : Module) (args : List ℕ) (f : ℕ) (store : Store) (meter : Meter) → Typed m → Begins m (length args) f store → CallGood m [] (I64 ∷ []) (meaning m f args store meter)
meaning_good m args f store meter typed b =
    let run : CallGood m [] (option_to_list (result_of b.type_) ++ []) (meaning m f args store meter) =
    call_good m typed MOST_CALLS f b.type_ [] (reverse (map value.I64 args)) (beginning store meter) b.known (args_typed b.type_ args b.params)
    (subst (StoreTyped m) (sym b.store_is) (filled_typed m typed)) in
    subst (λ (x : List ValueType). CallGood m [] (option_to_list (slice_get x 0) ++ []) (meaning m f args store meter)) b.results run
