-- The operands that a move needs, and its outcome.
use Rattle.std.proofs.Common.{◌≢◌, ℕ, List, [], ◌∷◌, refl}
use Rattle.wasm_spec.specs.declared.types.ValueType.TheVariants.{I32}
use Rattle.wasm_spec.specs.declared.values.Value.{Value}
use Rattle.wasm_spec.specs.declared.values.Value.TheVariants as value
use Rattle.wasm_spec.specs.Stores.{pop}
use Rattle.wasm_machine.specs.Machine.{Moved, Fails}
use Rattle.wasm_machine.specs.Numbers.{HasTop}

-- numbers that are taken

pub top_found : (ops : List Value) (go : ℕ → List Value → Moved) → pop Fails I32 ops go ≢ Fails → HasTop I32 ops
top_found [] go h = h refl
top_found (value.I32 n ∷ ops) go h = tt
top_found (value.I64 n ∷ ops) go h = h refl
