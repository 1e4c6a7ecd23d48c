-- Code that names only existing labels, which typing implies: what the compiler's functions require.
use Rattle.std.specs.Prelude.{◌≡◌, ℕ, suc, ◌<◌, Some, slice_get}
use Rattle.std.specs.List.{AllByRecursion}
use Rattle.wasm_spec.specs.declared.types.FuncType.{FuncType}
use Rattle.wasm_spec.specs.declared.instructions.Control.{Control}
use Rattle.wasm_spec.specs.declared.instructions.Control.TheVariants as jump
use Rattle.wasm_spec.specs.declared.module.Function.{Function}
use Rattle.wasm_spec.specs.declared.module.Module.{Module}
use Rattle.wasm_spec.specs.Code.{Code, end, plain, control, block, loop, choose}

-- inside n labels
abbrev pub ControlClosed : Module → ℕ → Control → Type 0
ControlClosed m n jump.Unreachable = Unit {0}
ControlClosed m n (jump.Br k) = k < n
ControlClosed m n (jump.BrIf k) = k < n
ControlClosed m n (jump.BrTable ks k) = AllByRecursion (λ k. k < n) ks × (k < n)
ControlClosed m n jump.Return = Unit {0}
ControlClosed m n (jump.Call f) = Unit {0}
ControlClosed m n (jump.CallIndirect t) = Unit {0}

abbrev pub Closed : Module → ℕ → Code → Type 0
Closed m n end = Unit {0}
Closed m n (plain p rest) = Closed m n rest
Closed m n (control k rest) = ControlClosed m n k × Closed m n rest
Closed m n (block r body rest) = Closed m (suc n) body × Closed m n rest
Closed m n (loop r body rest) = Closed m (suc n) body × Closed m n rest
Closed m n (choose r taken other rest) = Closed m (suc n) taken × Closed m (suc n) other × Closed m n rest

pub record FunctionClosed (m : Module) (f : Function) : Type 0 where
  pub type_ : FuncType
  pub known : slice_get m.types f.type_index ≡ Some type_
  pub body : Closed m 1 f.body
