-- The machine's pauses against a run (own).
use Rattle.std.specs.Prelude.{◌≡◌, ℕ, ◌<◌, ◌+◌, ◌-◌, ◌*◌, length, slice_get}
use Rattle.wasm_spec.specs.declared.module.Module.{Module}
use Rattle.wasm_spec.specs.Runs.{Run, Normal, Branch, Return, Trap, Spent, Stuck, Ask}
use Rattle.wasm_code.specs.declared.step.FlatCode.{FlatCode}
use Rattle.wasm_machine.specs.declared.run.Paused.{Paused}
use Rattle.wasm_machine.specs.declared.run.Paused.TheVariants as paused
use Rattle.wasm_machine.specs.Machine.{Machine}
use Rattle.wasm_machine.specs.Behaves.{Waits}

-- The run pauses or ends so, with this budget. At a call of an import the machine waits for its result.
abbrev pub Says : Module → FlatCode → Run → Paused → Machine → Type 0
Says source flat (Normal ops s) (paused.Done o) m = (o ≡ slice_get ops 0) × (m.state.meter ≡ s.meter)
Says source flat (Normal ops s) _ m = ⊥
Says source flat (Trap kind meter) (paused.Trap k) m = (k ≡ kind) × (m.state.meter ≡ meter)
Says source flat (Trap kind meter) _ m = ⊥
Says source flat (Spent meter) paused.Spent m = m.state.meter ≡ meter
Says source flat (Spent meter) _ m = ⊥
Says source flat (Ask f args memory meter on) (paused.HostCall g vs r) m =
    (g ≡ f) × (vs.items ≡ args) × (m.state.store.memory.bytes ≡ memory) × (m.state.meter ≡ meter) × Waits source flat m r on
Says source flat (Ask f args memory meter on) _ m = ⊥
Says source flat (Branch k ops s) _ m = ⊥
Says source flat (Return ops s) _ m = ⊥
Says source flat Stuck _ m = ⊥

-- a measure of the work that is left
abbrev pub work_of : FlatCode → Machine → ℕ
work_of flat m = (m.state.left * 2 + length m.frames) * (length flat.steps + 1) + (length flat.steps - m.pc)

-- at a call of an import less work is left than before
abbrev pub IsLess : FlatCode → Paused → Machine → Machine → Type 0
IsLess flat (paused.HostCall f vs r) old new = work_of flat new < work_of flat old
IsLess flat (paused.Done o) old new = Unit {0}
IsLess flat (paused.Trap k) old new = Unit {0}
IsLess flat paused.Spent old new = Unit {0}
