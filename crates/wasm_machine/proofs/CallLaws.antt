-- Calls that do not fail: what they find, and what they come to.
use Rattle.std.proofs.Common.{◌≡◌, ℕ, zero, suc, ◌+◌, ◌-◌, ◌<◌, ◌≤◌, Bool, true, false, List, [], ◌∷◌, ◌++◌, length, map, take, replicate, Some, refl, ap, ap₂, ◌∙◌, arith}
use Rattle.std.specs.Prelude.{◌&&◌}
use Rattle.std.specs.Cmp.Lexicographic.{pointwise}
use Rattle.wasm_spec.specs.declared.types.ValueType.{ValueType}
use Rattle.wasm_spec.specs.declared.types.ValueType.TheVariants.{I32, I64}
use Rattle.wasm_spec.specs.declared.types.FuncType.{FuncType}
use Rattle.wasm_spec.specs.declared.values.Value.{Value}
use Rattle.wasm_spec.specs.declared.values.TrapKind.TheVariants.{CallDepth}
use Rattle.wasm_spec.specs.declared.module.Locals.{Locals}
use Rattle.wasm_spec.specs.declared.module.Function.{Function}
use Rattle.wasm_spec.specs.Typing.{local_types}
use Rattle.wasm_spec.specs.Stores.{zero_of}
use Rattle.wasm_spec.specs.Runs.{State}
use Rattle.wasm_spec.specs.Meaning.{same_type, same_types, arguments, start_locals, MOST_CALLS}
use Rattle.wasm_machine.specs.Numbers.{first_locals}
use Rattle.wasm_machine.specs.Machine.{Frame, Machine, Goes, Traps, room_of, taking, enters, calls_own}

-- types

-- what a test of two types says, where it knows each of them
same_type-by : (E : ValueType → ValueType → Bool) → E I32 I32 ≡ true → E I32 I64 ≡ false → E I64 I32 ≡ false → E I64 I64 ≡ true → (t u : ValueType) → E t u ≡ same_type t u
same_type-by E nn nw wn ww I32 I32 = nn
same_type-by E nn nw wn ww I32 I64 = nw
same_type-by E nn nw wn ww I64 I32 = wn
same_type-by E nn nw wn ww I64 I64 = ww

-- and what it says of two lists of them
pub same_types-by : (E : ValueType → ValueType → Bool) → E I32 I32 ≡ true → E I32 I64 ≡ false → E I64 I32 ≡ false → E I64 I64 ≡ true → (ts us : List ValueType) → pointwise E ts us ≡ same_types ts us
same_types-by E nn nw wn ww [] [] = refl
same_types-by E nn nw wn ww [] (u ∷ us) = refl
same_types-by E nn nw wn ww (t ∷ ts) [] = refl
same_types-by E nn nw wn ww (t ∷ ts) (u ∷ us) = ap₂ (λ x y. x && y) (same_type-by E nn nw wn ww t u) (same_types-by E nn nw wn ww ts us)

-- locals

map-append : (xs ys : List ValueType) → map zero_of (xs ++ ys) ≡ map zero_of xs ++ map zero_of ys
map-append [] ys = refl
map-append (x ∷ xs) ys = ap (λ l. zero_of x ∷ l) (map-append xs ys)

map-replicate : (n : ℕ) (t : ValueType) → map zero_of (replicate n t) ≡ replicate n (zero_of t)
map-replicate zero t = refl
map-replicate (suc n) t = ap (λ l. zero_of t ∷ l) (map-replicate n t)

pub zeros_of : (ls : List Locals) → map zero_of (local_types ls) ≡ first_locals ls
zeros_of [] = refl
zeros_of (l ∷ ls) =
    map-append (replicate l.count l.value_type) (local_types ls) ∙ ap (λ x. x ++ map zero_of (local_types ls)) (map-replicate l.count l.value_type)
    ∙ ap (λ x. replicate l.count (zero_of l.value_type) ++ x) (zeros_of ls)

pub take_whole : {A : Type 0} (xs : List A) (n : ℕ) → length xs ≤ n → take n xs ≡ xs
take_whole [] zero le = refl
take_whole [] (suc n) le = refl
take_whole (x ∷ xs) zero le = absurd (omega arith)
take_whole (x ∷ xs) (suc n) le = ap (λ l. x ∷ l) (take_whole xs n (omega arith))

-- operands

most_is : MOST_CALLS ≡ 512
unfolding MOST_CALLS
most_is = refl

pub own_deep : (f : Function) (entry : ℕ) (t : FuncType) (m : Machine) (args rest : List Value) → arguments (length t.params) [] m.operands ≡ Some (args, rest) → 511 ≤ length m.frames → calls_own (Some f) (Some entry) t m ≡ Traps CallDepth m.state.meter
own_deep f entry t m args rest e deep =
    let none : room_of m.frames ≡ 0 = let k = most_is in omega arith in
    ap (λ o. taking o (λ args under. enters (room_of m.frames) f entry args under m)) e ∙ ap (λ n. enters n f entry args rest m) none

pub own_enters : (f : Function) (entry : ℕ) (t : FuncType) (m : Machine) (args rest : List Value) → arguments (length t.params) [] m.operands ≡ Some (args, rest) → length m.frames < 511 → calls_own (Some f) (Some entry) t m ≡ Goes (record { pc = entry; operands = rest; state = record m.state { locals = start_locals f args }; frames = (record { pc = m.pc + 1; locals = m.state.locals }) ∷ m.frames })
own_enters f entry t m args rest e shallow =
    let some : room_of m.frames ≡ suc (510 - length m.frames) = let k = most_is in omega arith in
    ap (λ o. taking o (λ args under. enters (room_of m.frames) f entry args under m)) e ∙ ap (λ n. enters n f entry args rest m) some

abbrev machine : ℕ → List Value → State → List Frame → Machine
machine pc ops s fs = record { pc = pc; operands = ops; state = s; frames = fs }

-- functions

-- a function that is entered, where its parts are known by equations
pub entered : (pc : ℕ) (ops ls ls' : List Value) (s : State) (fs fs' : List Frame) → ls ≡ ls' → fs ≡ fs' → machine pc ops (record s { locals = ls }) fs ≡ machine pc ops (record s { locals = ls' }) fs'
entered pc ops ls ls' s fs fs' e f = ap (λ l. machine pc ops (record s { locals = l }) fs) e ∙ ap (machine pc ops (record s { locals = ls' })) f
