-- Constant expressions.
use Rattle.std.proofs.Common.{◌≡◌, List, [], ◌∷◌, length, Option, None, refl}
use Rattle.wasm_spec.specs.declared.types.ValueType.{ValueType}
use Rattle.wasm_spec.specs.declared.module.Global.{Global}
use Rattle.wasm_spec.specs.declared.instructions.Instr.{Instr}
use Rattle.wasm_spec.specs.declared.instructions.Instr.TheVariants as instr
use Rattle.wasm_spec.specs.Code.{Code}
use Rattle.wasm_spec.specs.Views.{before, code_of}
use Rattle.wasm_spec.specs.Typing.{alone, constant_type, constant_of}

followed : (i : Instr) (rest : Code) (o : Option ValueType) → alone (before i rest) o ≡ None
followed (instr.Plain p) rest o = refl
followed (instr.Control k) rest o = refl
followed (instr.Block t body) rest o = refl
followed (instr.Loop t body) rest o = refl
followed (instr.If t taken other) rest o = refl

pub not_one : (gs : List Global) (is : List Instr) → (length is ≡ 1 → ⊥) → constant_type gs (code_of is) ≡ None
not_one gs [] ne = refl
not_one gs (i ∷ []) ne = absurd (ne refl)
not_one gs (instr.Plain p ∷ j ∷ is) ne = followed j (code_of is) (constant_of gs p)
not_one gs (instr.Control k ∷ j ∷ is) ne = refl
not_one gs (instr.Block t body ∷ j ∷ is) ne = refl
not_one gs (instr.Loop t body ∷ j ∷ is) ne = refl
not_one gs (instr.If t taken other ∷ j ∷ is) ne = refl
