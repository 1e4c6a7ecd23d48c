-- Sizes of code, and what it names.
use Rattle.std.proofs.Common.{◌≡◌, ℕ, zero, suc, ◌+◌, ◌<◌, ◌≤◌, List, [], ◌∷◌, length, get_or, Some, None, sym, ap, subst, arith}
use Rattle.std.specs.List.{AllByRecursion}
use Rattle.std.proofs.lemmas.Option.{slice_get_within}
use Rattle.wasm_spec.specs.declared.instructions.Control.{Control}
use Rattle.wasm_spec.specs.declared.instructions.Control.TheVariants as jump
use Rattle.wasm_spec.specs.declared.instructions.Instr.{Instr}
use Rattle.wasm_spec.specs.declared.instructions.Instr.TheVariants as instr
use Rattle.wasm_spec.specs.declared.types.ValueType.{ValueType}
use Rattle.wasm_spec.specs.declared.module.Function.{Function}
use Rattle.wasm_spec.specs.declared.module.Module.{Module}
use Rattle.wasm_spec.specs.Code.{Code, end, plain, control, block, loop, choose, BlockType, size_of}
use Rattle.wasm_spec.specs.Views.{before, code_of}
use Rattle.wasm_spec.specs.Typing.{Context, inside, label, ControlTyped, CodeTyped, FunctionTyped, body_context}
use Rattle.wasm_code.specs.Closed.{ControlClosed, Closed, FunctionClosed}

-- of one instruction
abbrev pub weight : Instr → ℕ
weight i = size_of (before i end)

weight_is : (i : Instr) (rest : Code) → size_of (before i rest) ≡ weight i + size_of rest
weight_is (instr.Plain p) rest = omega arith
weight_is (instr.Control k) rest = omega arith
weight_is (instr.Block t body) rest = omega arith
weight_is (instr.Loop t body) rest = omega arith
weight_is (instr.If t taken other) rest = omega arith

-- an instruction is no larger than the code that it stands in
pub weight_at : (is : List Instr) (k : ℕ) (i : Instr) → k < length is → i ≡ get_or is k i → weight i ≤ size_of (code_of is)
weight_at [] k i lt e = absurd (omega arith)
weight_at (x ∷ is) zero i lt e = omega (arith, ap weight e, weight_is x (code_of is))
weight_at (x ∷ is) (suc k) i lt e = omega (arith, weight_at is k i (omega arith) e, weight_is x (code_of is))

-- of each item
pub all_at : {A : Type 0} (P : A → Type 0) (xs : List A) (k : ℕ) (x : A) → k < length xs → x ≡ get_or xs k x → AllByRecursion P xs → P x
all_at P [] k x lt e h = absurd (omega arith)
all_at P (y ∷ xs) zero x lt e h = subst P (sym e) h.0
all_at P (y ∷ xs) (suc k) x lt e h = all_at P xs k x (omega arith) e h.1

closed_before : (m : Module) (n : ℕ) (i : Instr) (rest : Code) → Closed m n (before i rest) → Closed m n (before i end) × Closed m n rest
closed_before m n (instr.Plain p) rest c = (tt, c)
closed_before m n (instr.Control k) rest c = ((c.0, tt), c.1)
closed_before m n (instr.Block t body) rest c = ((c.0, tt), c.1)
closed_before m n (instr.Loop t body) rest c = ((c.0, tt), c.1)
closed_before m n (instr.If t taken other) rest c = ((c.0, c.1, tt), c.2)

pub closed_at : (m : Module) (n : ℕ) (is : List Instr) (k : ℕ) (i : Instr) → k < length is → i ≡ get_or is k i → Closed m n (code_of is) → Closed m n (before i end)
closed_at m n [] k i lt e c = absurd (omega arith)
closed_at m n (x ∷ is) zero i lt e c = subst (λ y. Closed m n (before y end)) (sym e) (closed_before m n x (code_of is) c).0
closed_at m n (x ∷ is) (suc k) i lt e c = closed_at m n is k i (omega arith) e (closed_before m n x (code_of is) c).1

-- typed code names only what is there

labels_there : (c : Context) (r : BlockType) (ks : List ℕ) → AllByRecursion (λ k. label c k ≡ Some r) ks → AllByRecursion (λ k. k < length c.labels) ks
labels_there c r [] h = tt
labels_there c r (k ∷ ks) h = (slice_get_within c.labels k r h.0, labels_there c r ks h.1)

control_closed : (c : Context) (k : Control) (ts us : List ValueType) → ControlTyped c k ts us → ControlClosed c.module_ (length c.labels) k
control_closed c jump.Unreachable ts us h = tt
control_closed c (jump.Br l) ts us h = slice_get_within c.labels l h.0 h.2
control_closed c (jump.BrIf l) ts us h = slice_get_within c.labels l h.0 h.2
control_closed c (jump.BrTable ls l) ts us h = (labels_there c h.0 ls h.3, slice_get_within c.labels l h.0 h.2)
control_closed c jump.Return ts us h = tt
control_closed c (jump.Call f) ts us h = tt
control_closed c (jump.CallIndirect t) ts us h = tt

pub code_closed : (c : Context) (x : Code) (ts us : List ValueType) → CodeTyped c x ts us → Closed c.module_ (length c.labels) x
code_closed c end ts us h = tt
code_closed c (plain p rest) ts us h = code_closed c rest h.0 us h.2
code_closed c (control k rest) ts us h = (control_closed c k ts h.0 h.1, code_closed c rest h.0 us h.2)
code_closed c (block r body rest) ts us h = (code_closed (inside r c) body _ _ h.0, code_closed c rest _ us h.1)
code_closed c (loop r body rest) ts us h = (code_closed (inside None c) body _ _ h.0, code_closed c rest _ us h.1)
code_closed c (choose r taken other rest) ts us h = (code_closed (inside r c) taken _ _ h.2, code_closed (inside r c) other _ _ h.3, code_closed c rest _ us h.4)

pub function_closed : (m : Module) (f : Function) → FunctionTyped m f → FunctionClosed m f
function_closed m f h = record { type_ = h.type_; known = h.known; body = code_closed (body_context m h.type_ f.locals) f.body _ _ h.body }
