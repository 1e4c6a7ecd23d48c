-- The meaning of the errors (own).
use Rattle.std.specs.Prelude.{Some, None, Result, Ok, Err}
use Rattle.wasm_spec.specs.declared.module.Module.{Module}
use Rattle.wasm_spec.specs.Typing.{IsIll, IsFirstIll}
use Rattle.wasm_check.specs.declared.error.Fault.{Fault}
use Rattle.wasm_check.specs.declared.error.Fault.TheVariants as fault
use Rattle.wasm_check.specs.declared.error.CheckErr.{CheckErr}
use Rattle.wasm_check.specs.declared.error.CheckErr.TheVariants.{Ill, NoMemory}

-- success means that the fact holds, `Ill` that it does not
abbrev pub Judges : Type 0 → Result (Unit {0}) Fault → Type 0
Judges P (Ok u) = P
Judges P (Err fault.Ill) = P → ⊥
Judges P (Err fault.NoMemory) = Unit {0}

-- `Ill` means that the module is ill typed at the function
abbrev pub ReportsIll : Module → CheckErr → Type 0
ReportsIll m (Ill func) = IsIll m func
ReportsIll m NoMemory = Unit {0}

-- `Ill` names the first ill-typed function
abbrev pub ReportsFunction : Module → CheckErr → Type 0
ReportsFunction m (Ill None) = ⊥
ReportsFunction m (Ill (Some f)) = IsFirstIll m f
ReportsFunction m NoMemory = Unit {0}
