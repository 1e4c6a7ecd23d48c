-- Flat code of a module: which steps hold the instructions of its trees (this host's, outside the core).
use Rattle.std.specs.Prelude.{◌≡◌, ℕ, zero, suc, ◌+◌, ◌-◌, ◌*◌, ◌<◌, List, [], ◌∷◌, length, Option, Some, None, slice_get}
use Rattle.wasm_spec.specs.declared.types.FuncType.{FuncType}
use Rattle.wasm_spec.specs.declared.instructions.Plain.{Plain}
use Rattle.wasm_spec.specs.declared.instructions.Plain.TheVariants as op
use Rattle.wasm_spec.specs.declared.instructions.Control.{Control}
use Rattle.wasm_spec.specs.declared.instructions.Control.TheVariants as jump
use Rattle.wasm_spec.specs.declared.module.Function.{Function}
use Rattle.wasm_spec.specs.declared.module.Module.{Module}
use Rattle.wasm_spec.specs.Code.{Code, end, plain, control, block, loop, choose, BlockType}
use Rattle.wasm_spec.specs.Typing.{numeric_signature, taken_types, function_type, result_of}
use Rattle.wasm_code.specs.declared.step.Step.{Step}
use Rattle.wasm_code.specs.declared.step.Step.TheVariants as step
use Rattle.wasm_code.specs.declared.step.FlatCode.{FlatCode as Flat}

-- the target of a label: the end of a block or the start of a loop, and the number of operands of the call below it
pub record Label : Type 0 where
  pub pc : ℕ
  pub result : BlockType
  pub height : ℕ

-- the number of values in a result
abbrev pub arity : BlockType → ℕ
arity None = 0
arity (Some t) = 1

-- the number of operands that an instruction pops and pushes
pub record Counts : Type 0 where
  pub takes : ℕ
  pub gives : ℕ

abbrev pub counts : ℕ → ℕ → Counts
counts takes gives = record { takes = takes; gives = gives }

abbrev pub counts_of : Plain → Counts
counts_of op.Nop = counts 0 0
counts_of op.Drop = counts 1 0
counts_of op.Select = counts 3 1
counts_of (op.LocalGet i) = counts 0 1
counts_of (op.LocalSet i) = counts 1 0
counts_of (op.LocalTee i) = counts 1 1
counts_of (op.GlobalGet i) = counts 0 1
counts_of (op.GlobalSet i) = counts 1 0
counts_of (op.Load l m) = counts 1 1
counts_of (op.Store s m) = counts 2 0
counts_of op.MemorySize = counts 0 1
counts_of op.MemoryGrow = counts 1 1
counts_of (op.I32Const n) = counts 0 1
counts_of (op.I64Const n) = counts 0 1
counts_of (op.Numeric o) = counts (length (taken_types (numeric_signature o).takes)) (arity (numeric_signature o).gives)

-- the number of operands after an instruction with h operands before it
abbrev pub height_after : Plain → ℕ → ℕ
height_after p h = h - (counts_of p).takes + (counts_of p).gives

abbrev pub height_after_call : Option FuncType → ℕ → ℕ
height_after_call None h = h
height_after_call (Some t) h = h - length t.params + arity (result_of t)

-- the label k satisfies P
abbrev pub LabelAt : List Label → ℕ → (Label → Type 0) → Type 0
LabelAt [] k P = ⊥
LabelAt (l ∷ ls) zero P = P l
LabelAt (l ∷ ls) (suc k) P = LabelAt ls k P

-- the step at p jumps to the label, with h operands before it
abbrev pub JumpsTo : Flat → (ℕ → ℕ → Step) → ℕ → ℕ → Label → Type 0
JumpsTo flat make p h l =
    (id : ℕ) × (slice_get flat.steps p ≡ Some (make id (h - l.height - arity l.result)))
    × (slice_get flat.targets id ≡ Some (record { pc = l.pc; result = l.result }))

-- a row of jumps from step p on, to the labels ks and then to the label other
abbrev pub RowAt : Flat → ℕ → ℕ → List Label → List ℕ → ℕ → Type 0
RowAt flat p h ls [] other = LabelAt ls other (JumpsTo flat step.Jump p h)
RowAt flat p h ls (k ∷ ks) other = LabelAt ls k (JumpsTo flat step.Jump p h) × RowAt flat (p + 1) h ls ks other

-- The step at p holds the control instruction, in the function with the label home. If code continues after it, next holds for
-- the operands left. Code after a branch never runs, so it is not constrained.
abbrev pub ControlAt : Module → Flat → Label → ℕ → Control → List Label → ℕ → (ℕ → Type 0) → Type 0
ControlAt m flat home p jump.Unreachable ls h next = slice_get flat.steps p ≡ Some step.Unreachable
ControlAt m flat home p (jump.Br k) ls h next = LabelAt ls k (JumpsTo flat step.Jump p h)
ControlAt m flat home p (jump.BrIf k) ls h next = LabelAt ls k (JumpsTo flat step.JumpIf p (h - 1)) × next (h - 1)
ControlAt m flat home p (jump.BrTable ks k) ls h next =
    (slice_get flat.steps p ≡ Some (step.Table (length ks))) × RowAt flat (p + 1) (h - 1) ls ks k
ControlAt m flat home p jump.Return ls h next = JumpsTo flat step.Jump p h home
ControlAt m flat home p (jump.Call f) ls h next =
    (slice_get flat.steps p ≡ Some (step.Call f)) × next (height_after_call (function_type m f) h)
ControlAt m flat home p (jump.CallIndirect t) ls h next =
    (slice_get flat.steps p ≡ Some (step.CallIndirect t)) × next (height_after_call (slice_get m.types t) (h - 1))

-- The steps from p up to q hold the code, in the function with the label home, inside the labels ls, with h operands of the call
-- at p.
abbrev pub Placed : Module → Flat → Label → ℕ → Code → ℕ → List Label → ℕ → Type 0
Placed m flat home p end q ls h = p ≡ q
Placed m flat home p (plain i rest) q ls h =
    (slice_get flat.steps p ≡ Some (step.Plain i)) × Placed m flat home (p + 1) rest q ls (height_after i h)
Placed m flat home p (control i rest) q ls h = ControlAt m flat home p i ls h (λ h. Placed m flat home (p + 1) rest q ls h)
Placed m flat home p (block r body rest) q ls h =
    (e : ℕ) × (slice_get flat.steps p ≡ Some step.Pass)
    × Placed m flat home (p + 1) body e ((record { pc = e; result = r; height = h }) ∷ ls) h
    × Placed m flat home e rest q ls (h + arity r)
Placed m flat home p (loop r body rest) q ls h =
    (e : ℕ) × (slice_get flat.steps p ≡ Some step.Pass)
    × Placed m flat home (p + 1) body e ((record { pc = p + 1; result = None; height = h }) ∷ ls) h
    × Placed m flat home e rest q ls (h + arity r)
Placed m flat home p (choose r taken other rest) q ls h =
    (x : ℕ) × (e : ℕ) × (slice_get flat.steps p ≡ Some (step.Unless (x + 1)))
    × Placed m flat home (p + 1) taken x ((record { pc = e; result = r; height = h - 1 }) ∷ ls) (h - 1)
    × (slice_get flat.steps x ≡ Some (step.Skip e)) × (x < e)
    × Placed m flat home (x + 1) other e ((record { pc = e; result = r; height = h - 1 }) ∷ ls) (h - 1)
    × Placed m flat home e rest q ls (h - 1 + arity r)

-- the label of a function's own block
abbrev pub home_of : ℕ → FuncType → Label
home_of last t = record { pc = last; result = result_of t; height = 0 }

-- the steps from entry on hold the function's code and its End
pub record IsFunctionAt (m : Module) (flat : Flat) (f : Function) (entry : ℕ) : Type 0 where
  pub type_ : FuncType
  pub last : ℕ
  pub known : slice_get m.types f.type_index ≡ Some type_
  pub body : Placed m flat (home_of last type_) entry f.body last (home_of last type_ ∷ []) 0
  pub ends : slice_get flat.steps last ≡ Some step.End

-- each function is at its entry
abbrev pub AreFunctionsAt : Module → Flat → List Function → List ℕ → Type 0
AreFunctionsAt m flat [] [] = Unit {0}
AreFunctionsAt m flat [] (e ∷ es) = ⊥
AreFunctionsAt m flat (f ∷ fs) [] = ⊥
AreFunctionsAt m flat (f ∷ fs) (e ∷ es) = IsFunctionAt m flat f e × AreFunctionsAt m flat fs es

-- the two steps that call an import on behalf of the host
pub record IsImportAt (flat : Flat) (f : ℕ) : Type 0 where
  pub asks : slice_get flat.steps (2 * f) ≡ Some (step.Import f)
  pub ends : slice_get flat.steps (2 * f + 1) ≡ Some step.End

-- The flat code holds the module: first its imports, then its functions.
pub record IsCompiled (m : Module) (flat : Flat) : Type 0 where
  pub imports : (f : ℕ) → f < length m.imports → IsImportAt flat f
  pub functions : AreFunctionsAt m flat m.functions flat.entries
