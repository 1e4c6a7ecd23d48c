-- The check finds exactly what is typed.
use Rattle.std.proofs.Common.{◌≡◌, ℕ, Bool, true, false, List, [], ◌∷◌, ◌++◌, length, Option, Some, None, refl, sym, ap, ◌∙◌, subst}
use Rattle.std.specs.Prelude.{slice_get, reverse, option_to_list, nat_lt, if◌then◌else◌}
use Rattle.std.specs.List.{list_all, AllByRecursion}
use Rattle.std.proofs.lemmas.Bool.{lt-ltb, ltb-true}
use Rattle.wasm_spec.specs.declared.types.ValueType.{ValueType}
use Rattle.wasm_spec.specs.declared.types.ValueType.TheVariants.{I32, I64}
use Rattle.wasm_spec.specs.declared.types.FuncType.{FuncType}
use Rattle.wasm_spec.specs.declared.types.Signature.{Signature}
use Rattle.wasm_spec.specs.declared.instructions.Plain.{Plain}
use Rattle.wasm_spec.specs.declared.instructions.Plain.TheVariants as op
use Rattle.wasm_spec.specs.declared.instructions.Control.{Control}
use Rattle.wasm_spec.specs.declared.instructions.Control.TheVariants as jump
use Rattle.wasm_spec.specs.Code.{Code, end, plain, control, block, loop, choose, BlockType}
use Rattle.wasm_spec.specs.Typing.{◌>>=◌, Context, inside, signature_of, taken_types, Applies, PlainTyped, label, CallTyped, ControlTyped, CodeTyped, result_of, function_type}
use Rattle.wasm_check.proofs.Passed.{all_back, all_on}
use Rattle.module_spec.specs.Check.{Shape, shape, nothing, anything, push, push_result, same_type, may_be, pop_from, pop_any, pop, pops, pop_result, is_empty, ends, either, check_select, check_signature, check_plain, same_label, check_call, check_table, check_control, check_code, body_check}

-- operands of this shape

abbrev pub Allows : Option ValueType → ValueType → Type 0
Allows None t = Unit {0}
Allows (Some u) t = u ≡ t

abbrev pub FitsIn : List (Option ValueType) → Bool → List ValueType → Type 0
FitsIn [] false [] = Unit {0}
FitsIn [] false (t ∷ ts) = ⊥
FitsIn [] true ts = Unit {0}
FitsIn (o ∷ known) any [] = ⊥
FitsIn (o ∷ known) any (t ∷ ts) = Allows o t × FitsIn known any ts

abbrev pub Fits : Shape → List ValueType → Type 0
Fits s ts = FitsIn s.known s.any ts

pub bind_some : {A B : Type 0} (o : Option A) (f : A → Option B) (y : B) → (o >>= f) ≡ Some y → (x : A) × (o ≡ Some x) × (f x ≡ Some y)
bind_some None f y e = cc
bind_some (Some x) f y e = (x, refl, e)

some_is : {A : Type 0} (x y : A) → Some x ≡ Some y → x ≡ y
some_is x y e = cc

passed : {A : Type 0} (b : Bool) (x y : A) → (if b then Some x else None) ≡ Some y → (b ≡ true) × (x ≡ y)
passed true x y e = let f : x ≡ y = cc in (refl, f)
passed false x y e = cc

same_type_true : (t u : ValueType) → same_type t u ≡ true → t ≡ u
same_type_true I32 I32 e = refl
same_type_true I32 I64 e = cc
same_type_true I64 I32 e = cc
same_type_true I64 I64 e = refl

same_type_refl : (t : ValueType) → same_type t t ≡ true
same_type_refl I32 = refl
same_type_refl I64 = refl

may_be_allows : (o : Option ValueType) (t : ValueType) → may_be o t ≡ true → Allows o t
may_be_allows None t e = tt
may_be_allows (Some u) t e = same_type_true u t e

allows_may_be : (o : Option ValueType) (t : ValueType) → Allows o t → may_be o t ≡ true
allows_may_be None t a = refl
allows_may_be (Some u) t a = ap (λ x. same_type x t) a ∙ same_type_refl t

-- some operands have the shape
some_type : Option ValueType → ValueType
some_type None = I32
some_type (Some t) = t

some_type_allowed : (o : Option ValueType) → Allows o (some_type o)
unfolding some_type
some_type_allowed None = tt
some_type_allowed (Some t) = refl

some_in : (known : List (Option ValueType)) (any : Bool) → (ts : List ValueType) × FitsIn known any ts
some_in [] false = ([], tt)
some_in [] true = ([], tt)
some_in (o ∷ known) any = let r = some_in known any in (some_type o ∷ r.0, (some_type_allowed o, r.1))

some_fit : (s : Shape) → (ts : List ValueType) × Fits s ts
some_fit s = some_in s.known s.any

fits_along : (s s' : Shape) (ts : List ValueType) → s ≡ s' → Fits s' ts → Fits s ts
fits_along s s' ts e h = subst (λ (x : Shape). Fits x ts) (sym e) h

push_back_in : (o : Option ValueType) (known : List (Option ValueType)) (any : Bool) (us : List ValueType) → FitsIn (o ∷ known) any us → (t : ValueType) × (ts : List ValueType) × (us ≡ t ∷ ts) × Allows o t × FitsIn known any ts
push_back_in o known any [] h = absurd h
push_back_in o known any (t ∷ ts) h = (t, ts, refl, h.0, h.1)

-- one operand taken away

pop_from_back : (known : List (Option ValueType)) (any : Bool) (x : Option ValueType × Shape) (t : ValueType) (ts : List ValueType) → pop_from known any ≡ Some x → Allows x.0 t → Fits x.1 ts → FitsIn known any (t ∷ ts)
pop_from_back [] false x t ts e a h = cc
pop_from_back [] true x t ts e a h = tt
pop_from_back (o ∷ known) any x t ts e a h =
    let p : (o, shape known any) ≡ x = some_is _ _ e in
    (subst (λ (y : Option ValueType × Shape). Allows y.0 t) (sym p) a, subst (λ (y : Option ValueType × Shape). Fits y.1 ts) (sym p) h)

pop_from_on : (known : List (Option ValueType)) (any : Bool) (t : ValueType) (ts : List ValueType) → FitsIn known any (t ∷ ts) → (x : Option ValueType × Shape) × (pop_from known any ≡ Some x) × Allows x.0 t × Fits x.1 ts
pop_from_on [] false t ts h = absurd h
pop_from_on [] true t ts h = ((None, anything), refl, tt, tt)
pop_from_on (o ∷ known) any t ts h = ((o, shape known any), refl, h.0, h.1)

pop_any_back : (s : Shape) (x : Option ValueType × Shape) (t : ValueType) (ts : List ValueType) → pop_any s ≡ Some x → Allows x.0 t → Fits x.1 ts → Fits s (t ∷ ts)
pop_any_back s x t ts e a h = pop_from_back s.known s.any x t ts e a h

pop_any_on : (s : Shape) (t : ValueType) (ts : List ValueType) → Fits s (t ∷ ts) → (x : Option ValueType × Shape) × (pop_any s ≡ Some x) × Allows x.0 t × Fits x.1 ts
pop_any_on s t ts h = pop_from_on s.known s.any t ts h

pop_back : (t : ValueType) (s s' : Shape) (ts : List ValueType) → pop t s ≡ Some s' → Fits s' ts → Fits s (t ∷ ts)
pop_back t s s' ts e h =
    let b = bind_some (pop_any s) (λ x. if may_be x.0 t then Some x.1 else None) s' e in
    let p = passed (may_be b.0.0 t) b.0.1 s' b.2 in
    pop_any_back s b.0 t ts b.1 (may_be_allows b.0.0 t p.0) (fits_along b.0.1 s' ts p.1 h)

pop_on : (t : ValueType) (s : Shape) (ts : List ValueType) → Fits s (t ∷ ts) → (s' : Shape) × (pop t s ≡ Some s') × Fits s' ts
pop_on t s ts h =
    let a = pop_any_on s t ts h in
    (a.0.1, ap (λ o. o >>= λ x. if may_be x.0 t then Some x.1 else None) a.1 ∙ ap (λ (b : Bool). if b then Some a.0.1 else None) (allows_may_be a.0.0 t a.2), a.3)

pops_back : (us : List ValueType) (s s' : Shape) (ts : List ValueType) → pops us s ≡ Some s' → Fits s' ts → Fits s (us ++ ts)
pops_back [] s s' ts e h = fits_along s s' ts (some_is s s' e) h
pops_back (u ∷ us) s s' ts e h =
    let b = bind_some (pop u s) (pops us) s' e in
    pop_back u s b.0 (us ++ ts) b.1 (pops_back us b.0 s' ts b.2 h)

pops_on : (us : List ValueType) (s : Shape) (ts : List ValueType) → Fits s (us ++ ts) → (s' : Shape) × (pops us s ≡ Some s') × Fits s' ts
pops_on [] s ts h = (s, refl, h)
pops_on (u ∷ us) s ts h =
    let a = pop_on u s (us ++ ts) h in
    let b = pops_on us a.0 ts a.2 in
    (b.0, ap (λ o. o >>= pops us) a.1 ∙ b.1, b.2)

pop_result_back : (r : BlockType) (s s' : Shape) (ts : List ValueType) → pop_result r s ≡ Some s' → Fits s' ts → Fits s (option_to_list r ++ ts)
pop_result_back None s s' ts e h = fits_along s s' ts (some_is s s' e) h
pop_result_back (Some t) s s' ts e h = pop_back t s s' ts e h

pop_result_on : (r : BlockType) (s : Shape) (ts : List ValueType) → Fits s (option_to_list r ++ ts) → (s' : Shape) × (pop_result r s ≡ Some s') × Fits s' ts
pop_result_on None s ts h = (s, refl, h)
pop_result_on (Some t) s ts h = pop_on t s ts h

result_on : (r : BlockType) (s : Shape) (ts : List ValueType) → Fits s ts → Fits (push_result r s) (option_to_list r ++ ts)
result_on None s ts h = h
result_on (Some t) s ts h = (refl, h)

result_back : (r : BlockType) (s : Shape) (us : List ValueType) → Fits (push_result r s) us → (ts : List ValueType) × (us ≡ option_to_list r ++ ts) × Fits s ts
result_back None s us h = (us, refl, h)
result_back (Some t) s us h = let b = push_back_in (Some t) s.known s.any us h in (b.1, b.2 ∙ ap (λ x. x ∷ b.1) (sym b.3), b.4)

-- plain instructions

either_back : (a b o : Option ValueType) (t : ValueType) → either a b ≡ Some o → Allows o t → Allows a t × Allows b t
either_back None b o t e h = (tt, subst (λ (x : Option ValueType). Allows x t) (sym (some_is b o e)) h)
either_back (Some a) None o t e h = let k : Some a ≡ o = some_is _ _ e in (subst (λ (x : Option ValueType). Allows x t) (sym k) h, tt)
either_back (Some a) (Some b) o t e h =
    let p = passed (same_type a b) (Some a) o e in
    let q : a ≡ t = subst (λ (x : Option ValueType). Allows x t) (sym p.1) h in
    (q, sym (same_type_true a b p.0) ∙ q)

either_on : (a b : Option ValueType) (t : ValueType) → Allows a t → Allows b t → (o : Option ValueType) × (either a b ≡ Some o) × Allows o t
either_on None b t ha hb = (b, refl, hb)
either_on (Some a) None t ha hb = (Some a, refl, ha)
either_on (Some a) (Some b) t ha hb = (Some a, ap (λ (x : Bool). if x then Some (Some a) else None) (ap (λ x. same_type x b) (ha ∙ sym hb) ∙ same_type_refl b), ha)

signature_back : (g : Signature) (s s' : Shape) (us : List ValueType) → check_signature g s ≡ Some s' → Fits s' us → (ts : List ValueType) × Fits s ts × Applies g ts us
signature_back g s s' us e h =
    let b = bind_some (pops (taken_types g.takes) s) (λ s. Some (push_result g.gives s)) s' e in
    let r = result_back g.gives b.0 us (fits_along (push_result g.gives b.0) s' us (some_is _ _ b.2) h) in
    (taken_types g.takes ++ r.0, pops_back (taken_types g.takes) s b.0 r.0 b.1 r.2, (r.0, refl, r.1))

signature_on : (g : Signature) (s : Shape) (ts us : List ValueType) → Applies g ts us → Fits s ts → (s' : Shape) × (check_signature g s ≡ Some s') × Fits s' us
signature_on g s ts us t h =
    let a = pops_on (taken_types g.takes) s t.0 (subst (Fits s) t.1 h) in
    (push_result g.gives a.0, ap (λ o. o >>= λ s. Some (push_result g.gives s)) a.1, subst (Fits (push_result g.gives a.0)) (sym t.2) (result_on g.gives a.0 t.0 a.2))

abbrev HasSignature : Context → Plain → List ValueType → List ValueType → Type 0
HasSignature c p ts us = (g : Signature) × (signature_of c p ≡ Some g) × Applies g ts us

general_back : (c : Context) (p : Plain) (s s' : Shape) (us : List ValueType) → (signature_of c p >>= λ g. check_signature g s) ≡ Some s' → Fits s' us → (ts : List ValueType) × Fits s ts × HasSignature c p ts us
general_back c p s s' us e h =
    let g = bind_some (signature_of c p) (λ g. check_signature g s) s' e in
    let t = signature_back g.0 s s' us g.2 h in
    (t.0, t.1, (g.0, g.1, t.2))

general_on : (c : Context) (p : Plain) (s : Shape) (ts us : List ValueType) → HasSignature c p ts us → Fits s ts → (s' : Shape) × ((signature_of c p >>= λ g. check_signature g s) ≡ Some s') × Fits s' us
general_on c p s ts us t h =
    let a = signature_on t.0 s ts us t.2 h in
    (a.0, ap (λ o. o >>= λ g. check_signature g s) t.1 ∙ a.1, a.2)

select_back : (s s' : Shape) (us : List ValueType) → check_select s ≡ Some s' → Fits s' us → (ts : List ValueType) × Fits s ts × ((t : ValueType) × (below : List ValueType) × (ts ≡ I32 ∷ t ∷ t ∷ below) × (us ≡ t ∷ below))
select_back s s' us e h =
    let i = bind_some (pop I32 s) (λ s. pop_any s >>= λ x. pop_any x.1 >>= λ y. either x.0 y.0 >>= λ o. Some (push o y.1)) s' e in
    let x = bind_some (pop_any i.0) (λ x. pop_any x.1 >>= λ y. either x.0 y.0 >>= λ o. Some (push o y.1)) s' i.2 in
    let y = bind_some (pop_any x.0.1) (λ y. either x.0.0 y.0 >>= λ o. Some (push o y.1)) s' x.2 in
    let o = bind_some (either x.0.0 y.0.0) (λ o. Some (push o y.0.1)) s' y.2 in
    let b = push_back_in o.0 y.0.1.known y.0.1.any us (fits_along (push o.0 y.0.1) s' us (some_is _ _ o.2) h) in
    let a = either_back x.0.0 y.0.0 o.0 b.0 o.1 b.3 in
    (I32 ∷ b.0 ∷ b.0 ∷ b.1, pop_back I32 s i.0 (b.0 ∷ b.0 ∷ b.1) i.1 (pop_any_back i.0 x.0 b.0 (b.0 ∷ b.1) x.1 a.0 (pop_any_back x.0.1 y.0 b.0 b.1 y.1 a.1 b.4)), (b.0, b.1, refl, b.2))

select_on : (s : Shape) (ts us below : List ValueType) (t : ValueType) → ts ≡ I32 ∷ t ∷ t ∷ below → us ≡ t ∷ below → Fits s ts → (s' : Shape) × (check_select s ≡ Some s') × Fits s' us
select_on s ts us below t e f h =
    let i = pop_on I32 s (t ∷ t ∷ below) (subst (Fits s) e h) in
    let x = pop_any_on i.0 t (t ∷ below) i.2 in
    let y = pop_any_on x.0.1 t below x.3 in
    let o = either_on x.0.0 y.0.0 t x.2 y.2 in (
      push o.0 y.0.1,
      ap (λ o. o >>= λ s. pop_any s >>= λ x. pop_any x.1 >>= λ y. either x.0 y.0 >>= λ o. Some (push o y.1)) i.1
          ∙ ap (λ o. o >>= λ x. pop_any x.1 >>= λ y. either x.0 y.0 >>= λ o. Some (push o y.1)) x.1
          ∙ ap (λ o. o >>= λ y. either x.0.0 y.0 >>= λ o. Some (push o y.1)) y.1
          ∙ ap (λ p. p >>= λ o. Some (push o y.0.1)) o.1,
      subst (Fits (push o.0 y.0.1)) (sym f) (o.2, y.3),
    )

plain_back : (c : Context) (p : Plain) (s s' : Shape) (us : List ValueType) → check_plain c p s ≡ Some s' → Fits s' us → (ts : List ValueType) × Fits s ts × PlainTyped c p ts us
plain_back c op.Drop s s' us e h =
    let b = bind_some (pop_any s) (λ x. Some x.1) s' e in
    let t = some_type b.0.0 in
    (t ∷ us, pop_any_back s b.0 t us b.1 (some_type_allowed b.0.0) (fits_along b.0.1 s' us (some_is _ _ b.2) h), (t, refl))
plain_back c op.Select s s' us e h = select_back s s' us e h
plain_back c op.Nop s s' us e h = general_back c op.Nop s s' us e h
plain_back c (op.LocalGet i) s s' us e h = general_back c (op.LocalGet i) s s' us e h
plain_back c (op.LocalSet i) s s' us e h = general_back c (op.LocalSet i) s s' us e h
plain_back c (op.LocalTee i) s s' us e h = general_back c (op.LocalTee i) s s' us e h
plain_back c (op.GlobalGet i) s s' us e h = general_back c (op.GlobalGet i) s s' us e h
plain_back c (op.GlobalSet i) s s' us e h = general_back c (op.GlobalSet i) s s' us e h
plain_back c (op.Load l m) s s' us e h = general_back c (op.Load l m) s s' us e h
plain_back c (op.Store l m) s s' us e h = general_back c (op.Store l m) s s' us e h
plain_back c op.MemorySize s s' us e h = general_back c op.MemorySize s s' us e h
plain_back c op.MemoryGrow s s' us e h = general_back c op.MemoryGrow s s' us e h
plain_back c (op.I32Const n) s s' us e h = general_back c (op.I32Const n) s s' us e h
plain_back c (op.I64Const n) s s' us e h = general_back c (op.I64Const n) s s' us e h
plain_back c (op.Numeric o) s s' us e h = general_back c (op.Numeric o) s s' us e h

plain_on : (c : Context) (p : Plain) (s : Shape) (ts us : List ValueType) → PlainTyped c p ts us → Fits s ts → (s' : Shape) × (check_plain c p s ≡ Some s') × Fits s' us
plain_on c op.Drop s ts us t h =
    let a = pop_any_on s t.0 us (subst (Fits s) t.1 h) in
    (a.0.1, ap (λ o. o >>= λ x. Some x.1) a.1, a.3)
plain_on c op.Select s ts us t h = select_on s ts us t.1 t.0 t.2 t.3 h
plain_on c op.Nop s ts us t h = general_on c op.Nop s ts us t h
plain_on c (op.LocalGet i) s ts us t h = general_on c (op.LocalGet i) s ts us t h
plain_on c (op.LocalSet i) s ts us t h = general_on c (op.LocalSet i) s ts us t h
plain_on c (op.LocalTee i) s ts us t h = general_on c (op.LocalTee i) s ts us t h
plain_on c (op.GlobalGet i) s ts us t h = general_on c (op.GlobalGet i) s ts us t h
plain_on c (op.GlobalSet i) s ts us t h = general_on c (op.GlobalSet i) s ts us t h
plain_on c (op.Load l m) s ts us t h = general_on c (op.Load l m) s ts us t h
plain_on c (op.Store l m) s ts us t h = general_on c (op.Store l m) s ts us t h
plain_on c op.MemorySize s ts us t h = general_on c op.MemorySize s ts us t h
plain_on c op.MemoryGrow s ts us t h = general_on c op.MemoryGrow s ts us t h
plain_on c (op.I32Const n) s ts us t h = general_on c (op.I32Const n) s ts us t h
plain_on c (op.I64Const n) s ts us t h = general_on c (op.I64Const n) s ts us t h
plain_on c (op.Numeric o) s ts us t h = general_on c (op.Numeric o) s ts us t h

-- control instructions

call_back : (t : FuncType) (s s' : Shape) (us : List ValueType) → check_call t s ≡ Some s' → Fits s' us → (ts : List ValueType) × Fits s ts × CallTyped t ts us
call_back t s s' us e h =
    let b = bind_some (pops (reverse t.params) s) (λ s. Some (push_result (result_of t) s)) s' e in
    let r = result_back (result_of t) b.0 us (fits_along (push_result (result_of t) b.0) s' us (some_is _ _ b.2) h) in
    (reverse t.params ++ r.0, pops_back (reverse t.params) s b.0 r.0 b.1 r.2, (r.0, refl, r.1))

call_on : (t : FuncType) (s : Shape) (ts us : List ValueType) → CallTyped t ts us → Fits s ts → (s' : Shape) × (check_call t s ≡ Some s') × Fits s' us
call_on t s ts us h f =
    let a = pops_on (reverse t.params) s h.0 (subst (Fits s) h.1 f) in
    (push_result (result_of t) a.0, ap (λ o. o >>= λ s. Some (push_result (result_of t) s)) a.1, subst (Fits (push_result (result_of t) a.0)) (sym h.2) (result_on (result_of t) a.0 h.0 a.2))

same_label_true : (r : BlockType) (o : Option BlockType) → same_label r o ≡ true → o ≡ Some r
same_label_true r None e = cc
same_label_true None (Some None) e = refl
same_label_true None (Some (Some u)) e = cc
same_label_true (Some t) (Some None) e = cc
same_label_true (Some t) (Some (Some u)) e = ap (λ x. Some (Some x)) (sym (same_type_true t u e))

same_label_refl : (r : BlockType) → same_label r (Some r) ≡ true
same_label_refl None = refl
same_label_refl (Some t) = same_type_refl t

labels_back : (c : Context) (r : BlockType) (ls : List ℕ) → list_all (λ k. same_label r (label c k)) ls ≡ true → AllByRecursion (λ k. label c k ≡ Some r) ls
labels_back c r ls e = all_back (λ k. same_label r (label c k)) (λ k. label c k ≡ Some r) (λ k. same_label_true r (label c k)) ls e

labels_on : (c : Context) (r : BlockType) (ls : List ℕ) → AllByRecursion (λ k. label c k ≡ Some r) ls → list_all (λ k. same_label r (label c k)) ls ≡ true
labels_on c r ls h = all_on (λ k. same_label r (label c k)) (λ k. label c k ≡ Some r) (λ k e. ap (same_label r) e ∙ same_label_refl r) ls h

-- after code that does not go on, from operands of the result's types and any below
never_back : (r : BlockType) (s s' : Shape) → pop_result r s ≡ Some s' → (below : List ValueType) × Fits s (option_to_list r ++ below)
never_back r s s' e = let b = some_fit s' in (b.0, pop_result_back r s s' b.0 e b.1)

control_back : (c : Context) (k : Control) (s s' : Shape) (us : List ValueType) → check_control c k s ≡ Some s' → Fits s' us → (ts : List ValueType) × Fits s ts × ControlTyped c k ts us
control_back c jump.Unreachable s s' us e h = let b = some_fit s in (b.0, b.1, tt)
control_back c (jump.Br l) s s' us e h =
    let r = bind_some (label c l) (λ r. pop_result r s >>= λ _. Some anything) s' e in
    let p = bind_some (pop_result r.0 s) (λ _. Some anything) s' r.2 in
    let b = never_back r.0 s p.0 p.1 in
    (option_to_list r.0 ++ b.0, b.1, (r.0, b.0, r.1, refl))
control_back c (jump.BrIf l) s s' us e h =
    let r = bind_some (label c l) (λ r. pop I32 s >>= λ s. pop_result r s >>= λ s. Some (push_result r s)) s' e in
    let i = bind_some (pop I32 s) (λ s. pop_result r.0 s >>= λ s. Some (push_result r.0 s)) s' r.2 in
    let p = bind_some (pop_result r.0 i.0) (λ s. Some (push_result r.0 s)) s' i.2 in
    let g = result_back r.0 p.0 us (fits_along (push_result r.0 p.0) s' us (some_is _ _ p.2) h) in
    (I32 ∷ (option_to_list r.0 ++ g.0), pop_back I32 s i.0 (option_to_list r.0 ++ g.0) i.1 (pop_result_back r.0 i.0 p.0 g.0 p.1 g.2), (r.0, g.0, r.1, refl, g.1))
control_back c (jump.BrTable ls l) s s' us e h =
    let r = bind_some (label c l) (λ r. check_table c.labels ls r s) s' e in
    let i = bind_some (pop I32 s) (λ s. pop_result r.0 s >>= λ _. if list_all (λ k. same_label r.0 (label c k)) ls then Some anything else None) s' r.2 in
    let p = bind_some (pop_result r.0 i.0) (λ _. if list_all (λ k. same_label r.0 (label c k)) ls then Some anything else None) s' i.2 in
    let t = passed (list_all (λ k. same_label r.0 (label c k)) ls) anything s' p.2 in
    let b = never_back r.0 i.0 p.0 p.1 in
    (I32 ∷ (option_to_list r.0 ++ b.0), pop_back I32 s i.0 (option_to_list r.0 ++ b.0) i.1 b.1, (r.0, b.0, r.1, labels_back c r.0 ls t.0, refl))
control_back c jump.Return s s' us e h =
    let p = bind_some (pop_result c.result s) (λ _. Some anything) s' e in
    let b = never_back c.result s p.0 p.1 in
    (option_to_list c.result ++ b.0, b.1, (b.0, refl))
control_back c (jump.Call f) s s' us e h =
    let t = bind_some (function_type c.module_ f) (λ t. check_call t s) s' e in
    let b = call_back t.0 s s' us t.2 h in
    (b.0, b.1, (t.0, t.1, b.2))
control_back c (jump.CallIndirect i) s s' us e h = go (nat_lt 0 (length c.module_.tables)) refl e
  where
    go : (b : Bool) → nat_lt 0 (length c.module_.tables) ≡ b → (if b then (slice_get c.module_.types i >>= λ t. pop I32 s >>= λ s. check_call t s) else None) ≡ Some s' → (ts : List ValueType) × Fits s ts × ControlTyped c (jump.CallIndirect i) ts us
    go true q e =
        let t = bind_some (slice_get c.module_.types i) (λ t. pop I32 s >>= λ s. check_call t s) s' e in
        let p = bind_some (pop I32 s) (λ s. check_call t.0 s) s' t.2 in
        let b = call_back t.0 p.0 s' us p.2 h in
        (I32 ∷ b.0, pop_back I32 s p.0 b.0 p.1 b.1, (t.0, b.0, ltb-true 0 (length c.module_.tables) q, t.1, refl, b.2))
    go false q e = cc

control_on : (c : Context) (k : Control) (s : Shape) (ts us : List ValueType) → ControlTyped c k ts us → Fits s ts → (s' : Shape) × (check_control c k s ≡ Some s') × Fits s' us
control_on c jump.Unreachable s ts us t h = (anything, refl, tt)
control_on c (jump.Br l) s ts us t h =
    let a = pop_result_on t.0 s t.1 (subst (Fits s) t.3 h) in
    (anything, ap (λ o. o >>= λ r. pop_result r s >>= λ _. Some anything) t.2 ∙ ap (λ o. o >>= λ _. Some anything) a.1, tt)
control_on c (jump.BrIf l) s ts us t h =
    let i = pop_on I32 s (option_to_list t.0 ++ t.1) (subst (Fits s) t.3 h) in
    let a = pop_result_on t.0 i.0 t.1 i.2 in (
      push_result t.0 a.0,
      ap (λ o. o >>= λ r. pop I32 s >>= λ s. pop_result r s >>= λ s. Some (push_result r s)) t.2
          ∙ ap (λ o. o >>= λ s. pop_result t.0 s >>= λ s. Some (push_result t.0 s)) i.1
          ∙ ap (λ o. o >>= λ s. Some (push_result t.0 s)) a.1,
      subst (Fits (push_result t.0 a.0)) (sym t.4) (result_on t.0 a.0 t.1 a.2),
    )
control_on c (jump.BrTable ls l) s ts us t h =
    let i = pop_on I32 s (option_to_list t.0 ++ t.1) (subst (Fits s) t.4 h) in
    let a = pop_result_on t.0 i.0 t.1 i.2 in (
      anything,
      ap (λ o. o >>= λ r. check_table c.labels ls r s) t.2
          ∙ ap (λ o. o >>= λ s. pop_result t.0 s >>= λ _. if list_all (λ k. same_label t.0 (label c k)) ls then Some anything else None) i.1
          ∙ ap (λ o. o >>= λ _. if list_all (λ k. same_label t.0 (label c k)) ls then Some anything else None) a.1
          ∙ ap (λ (b : Bool). if b then Some anything else None) (labels_on c t.0 ls t.3),
      tt,
    )
control_on c jump.Return s ts us t h =
    let a = pop_result_on c.result s t.0 (subst (Fits s) t.1 h) in
    (anything, ap (λ o. o >>= λ _. Some anything) a.1, tt)
control_on c (jump.Call f) s ts us t h =
    let a = call_on t.0 s ts us t.2 h in
    (a.0, ap (λ o. o >>= λ t. check_call t s) t.1 ∙ a.1, a.2)
control_on c (jump.CallIndirect i) s ts us t h =
    let p = pop_on I32 s t.1 (subst (Fits s) t.4 h) in
    let a = call_on t.0 p.0 t.1 us t.5 p.2 in (
      a.0,
      ap (λ (b : Bool). if b then (slice_get c.module_.types i >>= λ t. pop I32 s >>= λ s. check_call t s) else None) (lt-ltb 0 (length c.module_.tables) t.2)
          ∙ ap (λ o. o >>= λ t. pop I32 s >>= λ s. check_call t s) t.3
          ∙ ap (λ o. o >>= λ s. check_call t.0 s) p.1 ∙ a.1,
      a.2,
    )

-- code

empty_back : (known : List (Option ValueType)) (any : Bool) (s' : Shape) → is_empty (shape known any) ≡ Some s' → FitsIn known any []
empty_back [] false s' e = tt
empty_back [] true s' e = tt
empty_back (o ∷ known) any s' e = cc

empty_on : (known : List (Option ValueType)) (any : Bool) → FitsIn known any [] → (s' : Shape) × (is_empty (shape known any) ≡ Some s')
empty_on [] any h = (shape [] any, refl)
empty_on (o ∷ known) any h = absurd h

append_nil : {A : Type 0} (xs : List A) → xs ++ [] ≡ xs
append_nil [] = refl
append_nil (x ∷ xs) = ap (λ l. x ∷ l) (append_nil xs)

ends_back : (r : BlockType) (s s' : Shape) → ends r s ≡ Some s' → Fits s (option_to_list r)
ends_back r s s' e =
    let b = bind_some (pop_result r s) is_empty s' e in
    subst (Fits s) (append_nil (option_to_list r)) (pop_result_back r s b.0 [] b.1 (empty_back b.0.known b.0.any s' b.2))

ends_on : (r : BlockType) (s : Shape) → Fits s (option_to_list r) → (s' : Shape) × (ends r s ≡ Some s')
ends_on r s h =
    let a = pop_result_on r s [] (subst (Fits s) (sym (append_nil (option_to_list r))) h) in
    let b = empty_on a.0.known a.0.any a.2 in
    (b.0, ap (λ o. o >>= is_empty) a.1 ∙ b.1)

nothing_is : (ts : List ValueType) → Fits nothing ts → ts ≡ []
nothing_is [] h = refl
nothing_is (t ∷ ts) h = absurd h

-- a block's body, checked from no operands
pub body_typed : (c : Context) (x : Code) (r : BlockType) (s' : Shape) → ((s s' : Shape) (us : List ValueType) → check_code c x s ≡ Some s' → Fits s' us → (ts : List ValueType) × Fits s ts × CodeTyped c x ts us) → body_check c r x ≡ Some s' → CodeTyped c x [] (option_to_list r)
body_typed c x r s' back e =
    let b = bind_some (check_code c x nothing) (ends r) s' e in
    let t = back nothing b.0 (option_to_list r) b.1 (ends_back r b.0 s' b.2) in
    subst (λ ts. CodeTyped c x ts (option_to_list r)) (nothing_is t.0 t.1) t.2

pub code_back : (c : Context) (x : Code) (s s' : Shape) (us : List ValueType) → check_code c x s ≡ Some s' → Fits s' us → (ts : List ValueType) × Fits s ts × CodeTyped c x ts us
code_back c end s s' us e h = (us, fits_along s s' us (some_is s s' e) h, refl)
code_back c (plain p rest) s s' us e h =
    let b = bind_some (check_plain c p s) (check_code c rest) s' e in
    let t = code_back c rest b.0 s' us b.2 h in
    let o = plain_back c p s b.0 t.0 b.1 t.1 in
    (o.0, o.1, (t.0, o.2, t.2))
code_back c (control k rest) s s' us e h =
    let b = bind_some (check_control c k s) (check_code c rest) s' e in
    let t = code_back c rest b.0 s' us b.2 h in
    let o = control_back c k s b.0 t.0 b.1 t.1 in
    (o.0, o.1, (t.0, o.2, t.2))
code_back c (block r body rest) s s' us e h =
    let a = bind_some (body_check (inside r c) r body) (λ _. check_code c rest (push_result r s)) s' e in
    let t = code_back c rest (push_result r s) s' us a.2 h in
    let g = result_back r s t.0 t.1 in
    (g.0, g.2, (body_typed (inside r c) body r a.0 (code_back (inside r c) body) a.1, subst (λ ts. CodeTyped c rest ts us) g.1 t.2))
code_back c (loop r body rest) s s' us e h =
    let a = bind_some (body_check (inside None c) r body) (λ _. check_code c rest (push_result r s)) s' e in
    let t = code_back c rest (push_result r s) s' us a.2 h in
    let g = result_back r s t.0 t.1 in
    (g.0, g.2, (body_typed (inside None c) body r a.0 (code_back (inside None c) body) a.1, subst (λ ts. CodeTyped c rest ts us) g.1 t.2))
code_back c (choose r taken other rest) s s' us e h =
    let i = bind_some (pop I32 s) (λ s. body_check (inside r c) r taken >>= λ _. body_check (inside r c) r other >>= λ _. check_code c rest (push_result r s)) s' e in
    let a = bind_some (body_check (inside r c) r taken) (λ _. body_check (inside r c) r other >>= λ _. check_code c rest (push_result r i.0)) s' i.2 in
    let b = bind_some (body_check (inside r c) r other) (λ _. check_code c rest (push_result r i.0)) s' a.2 in
    let t = code_back c rest (push_result r i.0) s' us b.2 h in
    let g = result_back r i.0 t.0 t.1 in (
      I32 ∷ g.0,
      pop_back I32 s i.0 g.0 i.1 g.2,
      (g.0, refl, body_typed (inside r c) taken r a.0 (code_back (inside r c) taken) a.1, body_typed (inside r c) other r b.0 (code_back (inside r c) other) b.1, subst (λ ts. CodeTyped c rest ts us) g.1 t.2),
    )

-- the check of a body that is typed
pub body_on : (c : Context) (x : Code) (r : BlockType) → (s' : Shape) × (check_code c x nothing ≡ Some s') × Fits s' (option_to_list r) → (s' : Shape) × (body_check c r x ≡ Some s')
body_on c x r a = let b = ends_on r a.0 a.2 in (b.0, ap (λ o. o >>= ends r) a.1 ∙ b.1)

pub code_on : (c : Context) (x : Code) (s : Shape) (ts us : List ValueType) → CodeTyped c x ts us → Fits s ts → (s' : Shape) × (check_code c x s ≡ Some s') × Fits s' us
code_on c end s ts us t h = (s, refl, subst (Fits s) (sym t) h)
code_on c (plain p rest) s ts us t h =
    let a = plain_on c p s ts t.0 t.1 h in
    let b = code_on c rest a.0 t.0 us t.2 a.2 in
    (b.0, ap (λ o. o >>= check_code c rest) a.1 ∙ b.1, b.2)
code_on c (control k rest) s ts us t h =
    let a = control_on c k s ts t.0 t.1 h in
    let b = code_on c rest a.0 t.0 us t.2 a.2 in
    (b.0, ap (λ o. o >>= check_code c rest) a.1 ∙ b.1, b.2)
code_on c (block r body rest) s ts us t h =
    let a = body_on (inside r c) body r (code_on (inside r c) body nothing [] (option_to_list r) t.0 tt) in
    let b = code_on c rest (push_result r s) (option_to_list r ++ ts) us t.1 (result_on r s ts h) in
    (b.0, ap (λ o. o >>= λ _. check_code c rest (push_result r s)) a.1 ∙ b.1, b.2)
code_on c (loop r body rest) s ts us t h =
    let a = body_on (inside None c) body r (code_on (inside None c) body nothing [] (option_to_list r) t.0 tt) in
    let b = code_on c rest (push_result r s) (option_to_list r ++ ts) us t.1 (result_on r s ts h) in
    (b.0, ap (λ o. o >>= λ _. check_code c rest (push_result r s)) a.1 ∙ b.1, b.2)
code_on c (choose r taken other rest) s ts us t h =
    let i = pop_on I32 s t.0 (subst (Fits s) t.1 h) in
    let a = body_on (inside r c) taken r (code_on (inside r c) taken nothing [] (option_to_list r) t.2 tt) in
    let d = body_on (inside r c) other r (code_on (inside r c) other nothing [] (option_to_list r) t.3 tt) in
    let b = code_on c rest (push_result r i.0) (option_to_list r ++ t.0) us t.4 (result_on r i.0 t.0 i.2) in (
      b.0,
      ap (λ o. o >>= λ s. body_check (inside r c) r taken >>= λ _. body_check (inside r c) r other >>= λ _. check_code c rest (push_result r s)) i.1
          ∙ ap (λ o. o >>= λ _. body_check (inside r c) r other >>= λ _. check_code c rest (push_result r i.0)) a.1
          ∙ ap (λ o. o >>= λ _. check_code c rest (push_result r i.0)) d.1 ∙ b.1,
      b.2,
    )

-- A body is typed exactly where it is checked.
pub checked_typed : (c : Context) (x : Code) (r : BlockType) (s : Shape) → body_check c r x ≡ Some s → CodeTyped c x [] (option_to_list r)
checked_typed c x r s e = body_typed c x r s (code_back c x) e

pub typed_checked : (c : Context) (x : Code) (r : BlockType) → CodeTyped c x [] (option_to_list r) → (s : Shape) × (body_check c r x ≡ Some s)
typed_checked c x r t = body_on c x r (code_on c x nothing [] (option_to_list r) t tt)
