-- The result of popping an operand (own).
use Rattle.std.specs.Prelude.{◌≡◌, Option, Some, None}
use Rattle.wasm_spec.specs.declared.types.ValueType.{ValueType}
use Rattle.module_spec.specs.Check.{Shape}

abbrev pub Pops : Option (Option ValueType × Shape) → Option (Option ValueType) → Shape → Type 0
Pops p None new = p ≡ None
Pops p (Some o) new = p ≡ Some (o, new)
