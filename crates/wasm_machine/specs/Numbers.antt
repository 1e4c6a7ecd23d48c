-- Types of the topmost operands, and initial values of locals (own).
use Rattle.std.specs.Prelude.{◌≡◌, List, [], ◌∷◌, replicate}
use Rattle.std.specs.List.{flat_map}
use Rattle.wasm_spec.specs.declared.module.Locals.{Locals}
use Rattle.wasm_spec.specs.Stores.{type_of, zero_of}
use Rattle.wasm_spec.specs.declared.types.ValueType.{ValueType}
use Rattle.wasm_spec.specs.declared.types.ValueType.TheVariants.{I32, I64}
use Rattle.wasm_spec.specs.declared.values.Value.{Value}
use Rattle.wasm_spec.specs.declared.values.Value.TheVariants as value

-- the topmost operand has the type
abbrev pub HasTop : ValueType → List Value → Type 0
HasTop t [] = ⊥
HasTop I32 (value.I32 n ∷ ops) = Unit {0}
HasTop I32 (value.I64 n ∷ ops) = ⊥
HasTop I64 (value.I32 n ∷ ops) = ⊥
HasTop I64 (value.I64 n ∷ ops) = Unit {0}

-- the topmost operand has the first type, the one under it the second
abbrev pub HasPair : ValueType → ValueType → List Value → Type 0
HasPair t u [] = ⊥
HasPair t u (v ∷ ops) = (type_of v ≡ t) × HasTop u ops

-- the initial values of a function's own locals
abbrev pub first_locals : List Locals → List Value
first_locals = flat_map (λ (l : Locals). replicate l.count (zero_of l.value_type))
