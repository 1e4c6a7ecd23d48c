-- The check of code, step by step.
use Rattle.std.proofs.Common.{◌≡◌, ℕ, zero, suc, ◌+◌, ◌<◌, ◌≤◌, List, [], ◌∷◌, length, drop, get_or, Option, Some, Result, Ok, Err, Bool, true, false, refl, sym, ap, ◌∙◌, subst, arith}
use Rattle.std.specs.Prelude.{◌≢◌, MatchBool}
use Rattle.std.proofs.lemmas.List.{drop_more}
use Rattle.wasm_spec.specs.declared.instructions.Instr.{Instr}
use Rattle.wasm_spec.specs.declared.instructions.Instr.TheVariants as instr
use Rattle.wasm_spec.specs.Code.{Code, end, BlockType, size_of}
use Rattle.wasm_spec.specs.Views.{before, code_of}
use Rattle.wasm_spec.specs.Typing.{◌>>=◌, Context}
use Rattle.wasm_check.specs.declared.error.Fault.{Fault}
use Rattle.wasm_check.specs.declared.error.Fault.TheVariants.{Ill, NoMemory}
use Rattle.wasm_spec.specs.declared.types.ValueType.{ValueType}
use Rattle.module_spec.specs.Check.{Shape, nothing, anything, pops, ends, check_code, body_check}
use Rattle.wasm_check.specs.Checks.{Checks, ChecksOn, IsChecked}

-- sizes

-- of one instruction
abbrev pub weight : Instr → ℕ
weight i = size_of (before i end)

weight_is : (i : Instr) (rest : Code) → size_of (before i rest) ≡ weight i + size_of rest
weight_is (instr.Plain p) rest = omega arith
weight_is (instr.Control k) rest = omega arith
weight_is (instr.Block t body) rest = omega arith
weight_is (instr.Loop t body) rest = omega arith
weight_is (instr.If t taken other) rest = omega arith

-- an instruction is no larger than the code that it stands in
pub weight_at : (is : List Instr) (k : ℕ) (i : Instr) → k < length is → i ≡ get_or is k i → weight i ≤ size_of (code_of is)
weight_at [] k i lt e = absurd (omega arith)
weight_at (x ∷ is) zero i lt e = omega (arith, ap weight e, weight_is x (code_of is))
weight_at (x ∷ is) (suc k) i lt e = omega (arith, weight_at is k i (omega arith) e, weight_is x (code_of is))

-- an item of a list, and what follows it
pub drop_item : {A : Type 0} (xs : List A) (i : ℕ) (x : A) → i < length xs → x ≡ get_or xs i x → drop i xs ≡ x ∷ drop (i + 1) xs
drop_item xs i x lt e = drop_more xs i x lt ∙ ap (λ y. y ∷ drop (i + 1) xs) (sym e)

-- exits

pub all_err : (r : Result (Unit {0}) Fault) (x e : Fault) (whole next : Option Shape) (new : Shape) → r ≡ Err x → x ≡ e → ChecksOn whole (Err e) next → Checks whole r new
all_err r x e whole next new q p h = subst (λ r. Checks whole r new) (sym (q ∙ ap (λ (e : Fault). Err e) p)) (go e h)
  where
    go : (e : Fault) → ChecksOn whole (Err e) next → Checks whole (Err e) new
    go Ill h = h
    go NoMemory h = tt

-- the arguments of a call

pops_anything : (ts : List ValueType) → pops ts anything ≡ Some anything
pops_anything [] = refl
pops_anything (t ∷ ts) = pops_anything ts

pub pops_stop : (b : Bool) (s : Shape) (ts : List ValueType) (whole : Option Shape) → MatchBool b (s ≡ anything) (s ≢ anything) → b ≡ true → whole ≡ pops ts s → whole ≡ Some s
pops_stop true s ts whole m e h = h ∙ ap (pops ts) m ∙ pops_anything ts ∙ ap (λ s. Some s) (sym m)
pops_stop false s ts whole m e h = cc

-- a block's end
pub body_ends : (c : Context) (r : BlockType) (x : Code) (s new : Shape) (res : Result (Unit {0}) Fault) → check_code c x nothing ≡ Some s → Checks (ends r s) res new → IsChecked (body_check c r x) res
body_ends c r x s new (Ok u) e h = (new, ap (λ o. o >>= ends r) e ∙ h)
body_ends c r x s new (Err Ill) e h = ap (λ o. o >>= ends r) e ∙ h
body_ends c r x s new (Err NoMemory) e h = tt
