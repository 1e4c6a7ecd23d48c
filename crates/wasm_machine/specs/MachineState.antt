-- The code's machine as the machine of the definitions (own).
use Rattle.std.specs.Prelude.{◌≡◌, ◌≢◌, ℕ, suc, List, Option, Some, None, true, false, ◌⊎◌}
use Rattle.budget_meter.specs.declared.kind.Kind.TheVariants.{WasmInsnExec}
use Rattle.budget_meter.specs.Meter.{Meter, used_after}
use Rattle.wasm_spec.specs.Runs.{has_room}
use Rattle.wasm_spec.specs.declared.values.Value.{Value}
use Rattle.wasm_spec.specs.declared.values.TrapKind.{TrapKind}
use Rattle.wasm_spec.specs.Stores.{Store}
use Rattle.wasm_spec.specs.Effects.{Effect, Leaves, Grows, Faults, Lacks}
use Rattle.wasm_machine.specs.declared.machine.MachineState.{MachineState}
use Rattle.wasm_machine.specs.declared.machine.Outcome.{Outcome}
use Rattle.wasm_machine.specs.declared.machine.Outcome.TheVariants as outcome
use Rattle.wasm_machine.specs.Machine.{Machine, Moved, Goes, Ends, Traps, RunsOut, Fails, Asks}

abbrev pub machine_of : MachineState → Meter → Machine
machine_of r meter = record {
  pc = r.pc;
  operands = r.operands;
  state = record { locals = r.locals.items; store = r.store; left = r.left; meter = meter };
  frames = r.frames;
}

-- the outcome is that of the move, and new is the machine after it
abbrev pub IsMove : Moved → Outcome → Machine → Type 0
IsMove (Goes m) outcome.Goes new = new ≡ m
IsMove (Goes m) _ new = ⊥
IsMove (Ends ops meter) outcome.Ends new = (new.operands ≡ ops) × (new.state.meter ≡ meter)
IsMove (Ends ops meter) _ new = ⊥
IsMove (Traps kind meter) (outcome.Traps k) new = (k ≡ kind) × (new.state.meter ≡ meter)
IsMove (Traps kind meter) _ new = ⊥
IsMove (RunsOut meter) outcome.RunsOut new = new.state.meter ≡ meter
IsMove (RunsOut meter) _ new = ⊥
IsMove Fails _ new = ⊥
IsMove (Asks f args r m) (outcome.Asks g vs q) new = (g ≡ f) × (vs.items ≡ args) × (q ≡ r) × (new ≡ m)
IsMove (Asks f args r m) _ new = ⊥

-- with some budget the move does not fail
abbrev pub CanMove : (Machine → Moved) → MachineState → Type 0
CanMove go r = (b : Meter) × (go (machine_of r b) ≢ Fails)

-- with any budget, the outcome and the machine after it are those of the move
abbrev pub Moves : (Machine → Moved) → MachineState → Outcome → MachineState → Type 0
Moves go old o new = (b : Meter) → IsMove (go (machine_of old b)) o (machine_of new b)

-- one instruction is counted and charged
pub record Pays (left : ℕ) (meter : Meter) (left' : ℕ) (meter' : Meter) : Type 0 where
  pub counted : left ≡ suc left'
  pub fits : has_room meter.limits (used_after meter WasmInsnExec 1) ≡ true
  pub charged : meter' ≡ record meter { used = used_after meter WasmInsnExec 1 }

-- no instruction is left, or the budget has no room for the charge
abbrev pub CannotPay : ℕ → Meter → Type 0
CannotPay left meter = (left ≡ 0) ⊎ (has_room meter.limits (used_after meter WasmInsnExec 1) ≡ false)

-- the effect is defined and needs no charge
abbrev pub CanApply : Effect → Type 0
CanApply (Leaves ops locals store) = Unit {0}
CanApply (Faults kind) = Unit {0}
CanApply (Grows bytes ops locals store) = ⊥
CanApply Lacks = ⊥

-- the outcome of the effect: a trap, or these operands, locals and store
abbrev pub IsEffect : Effect → Option TrapKind → List Value → List Value → Store → Type 0
IsEffect (Leaves ops locals store) None ops' locals' store' = (ops' ≡ ops) × (locals' ≡ locals) × (store' ≡ store)
IsEffect (Leaves ops locals store) (Some k) ops' locals' store' = ⊥
IsEffect (Faults kind) None ops' locals' store' = ⊥
IsEffect (Faults kind) (Some k) ops' locals' store' = k ≡ kind
IsEffect (Grows bytes ops locals store) _ ops' locals' store' = ⊥
IsEffect Lacks _ ops' locals' store' = ⊥
