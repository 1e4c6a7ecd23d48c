-- Constant expressions.
use Rattle.std.proofs.Common.{◌≡◌, List, [], ◌∷◌, length, None, refl}
use Rattle.wasm_spec.specs.declared.values.Value.{Value}
use Rattle.wasm_spec.specs.declared.instructions.Plain.{Plain}
use Rattle.wasm_spec.specs.declared.instructions.Instr.{Instr}
use Rattle.wasm_spec.specs.declared.instructions.Instr.TheVariants as instr
use Rattle.wasm_spec.specs.Code.{Code, plain}
use Rattle.wasm_spec.specs.Views.{before, code_of}
use Rattle.wasm_spec.specs.Instances.{constant_value}

followed : (gs : List Value) (p : Plain) (i : Instr) (rest : Code) → constant_value gs (plain p (before i rest)) ≡ None
followed gs p (instr.Plain q) rest = refl
followed gs p (instr.Control k) rest = refl
followed gs p (instr.Block t body) rest = refl
followed gs p (instr.Loop t body) rest = refl
followed gs p (instr.If t taken other) rest = refl

pub not_one : (gs : List Value) (is : List Instr) → (length is ≡ 1 → ⊥) → constant_value gs (code_of is) ≡ None
not_one gs [] ne = refl
not_one gs (i ∷ []) ne = absurd (ne refl)
not_one gs (instr.Plain p ∷ j ∷ is) ne = followed gs p j (code_of is)
not_one gs (instr.Control k ∷ j ∷ is) ne = refl
not_one gs (instr.Block t body ∷ j ∷ is) ne = refl
not_one gs (instr.Loop t body ∷ j ∷ is) ne = refl
not_one gs (instr.If t taken other ∷ j ∷ is) ne = refl
