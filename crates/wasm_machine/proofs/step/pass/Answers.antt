use Rattle.std.proofs.Common.{◌≡◌, sym, subst}
use Rattle.std.specs.Prelude.{IfOk}
use Rattle.wasm_code.specs.Ops.{step_of}
use Rattle.wasm_machine.specs.Machine.{Fails, passes}
use Rattle.wasm_machine.specs.MachineState.{IsMove, machine_of}
use Rattle.wasm_machine.proofs.PlainLaws.{if_ok}
use Rattle.wasm_machine.proofs.step.pass.Goals as goal

pub call_import-requires-clause-moves : goal.call_import-requires-clause-moves
call_import-requires-clause-moves c =
    let m = machine_of c.args.machine.now c.args.budget.now in
    (c.args.budget.now, subst (λ i. passes c.args.source.now (step_of i) m ≡ Fails → ⊥) c.in-Import.is c.requires.moves)

pub returns-in-Import : goal.returns-in-Import
returns-in-Import c =
    let m = machine_of c.args.machine.now c.args.budget.now in
    let new = machine_of c.call_import.new.machine c.args.budget.now in
    subst (λ i. IfOk c.call_import.result (λ o. IsMove (passes c.args.source.now (step_of i) m) o new)) (sym c.in-Import.is)
    (if_ok c.call_import.result _ _ c.call_import.ensures (λ o h. h c.args.budget.now))
