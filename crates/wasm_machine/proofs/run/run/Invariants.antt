use Rattle.std.proofs.Common.{◌≤◌}
use Rattle.wasm_spec.specs.Runs.{Run}
use Rattle.wasm_machine.specs.Behaves.{Behaves}
use Rattle.wasm_machine.specs.MachineState.{machine_of}
use Rattle.wasm_machine.specs.Says.{work_of}
use Rattle.wasm_spec.specs.Spending.{IsLater}
use Rattle.wasm_machine.proofs.run.run.Given as goal

abbrev pub invariant-loop-machine : goal.invariant-loop-machine
invariant-loop-machine l = ((r : Run) × Behaves l.source l.code (machine_of l.machine l.budget) r)
    × ((r : Run) → Behaves l.fn.source l.fn.code (machine_of l.fn.machine l.fn.budget) r → Behaves l.source l.code (machine_of l.machine l.budget) r)
    × IsLater l.fn.budget l.budget
    × (work_of l.code (machine_of l.machine l.budget) ≤ work_of l.fn.code (machine_of l.fn.machine l.fn.budget))

abbrev pub decreases-loop-machine : goal.decreases-loop-machine
decreases-loop-machine l = work_of l.code (machine_of l.machine l.budget)
