-- The steps whose outcome is small: they neither call nor return nor grow the memory, and are charged (own).
use Rattle.std.specs.Prelude.{Bool, true, false}
use Rattle.wasm_spec.specs.declared.instructions.Plain.{Plain}
use Rattle.wasm_spec.specs.declared.instructions.Plain.TheVariants as op
use Rattle.wasm_code.specs.declared.step.Step.{Step}
use Rattle.wasm_code.specs.declared.step.Step.TheVariants as step
use Rattle.wasm_machine.specs.declared.machine.Outcome.TheVariants as outcome
use Rattle.wasm_machine.specs.declared.machine.Quick.{Quick}
use Rattle.wasm_machine.specs.declared.machine.Quick.TheVariants as quick
use Rattle.wasm_machine.specs.Machine.{Machine, Moved}
use Rattle.wasm_machine.specs.MachineState.{IsMove}

abbrev pub never_grows : Plain → Bool
never_grows op.MemoryGrow = false
never_grows _ = true

-- an instruction that never branches, other than memory.grow
abbrev pub is_plain : Step → Bool
is_plain (step.Plain p) = never_grows p
is_plain _ = false

abbrev pub is_quick : Step → Bool
is_quick (step.Plain p) = never_grows p
is_quick step.Pass = true
is_quick (step.Unless to) = true
is_quick (step.Jump id n) = true
is_quick (step.JumpIf id n) = true
is_quick (step.Table count) = true
is_quick _ = false

-- the outcome is that of the move, and new is the machine after it
abbrev pub IsQuick : Moved → Quick → Machine → Type 0
IsQuick out quick.Goes new = IsMove out outcome.Goes new
IsQuick out (quick.Traps k) new = IsMove out (outcome.Traps k) new
IsQuick out quick.RunsOut new = IsMove out outcome.RunsOut new
IsQuick out quick.NoMemory new = Unit {0}
