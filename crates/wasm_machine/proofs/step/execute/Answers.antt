use Rattle.std.proofs.Common.{◌≡◌, sym, subst}
use Rattle.std.specs.Prelude.{IfOk}
use Rattle.wasm_code.specs.Ops.{step_of}
use Rattle.wasm_machine.specs.Machine.{Fails, executes}
use Rattle.wasm_machine.specs.MachineState.{IsMove, machine_of}
use Rattle.wasm_machine.proofs.PlainLaws.{if_ok}
use Rattle.wasm_machine.proofs.step.execute.Goals as goal

pub call-requires-clause-moves : goal.call-requires-clause-moves
call-requires-clause-moves c =
    let m = machine_of c.args.machine.now c.args.budget.now in
    (c.args.budget.now, subst (λ i. executes c.args.source.now c.args.code.now (step_of i) m ≡ Fails → ⊥) c.in-Call.is c.requires.moves)

pub call_by_table-requires-clause-moves : goal.call_by_table-requires-clause-moves
call_by_table-requires-clause-moves c =
    let m = machine_of c.args.machine.now c.args.budget.now in
    (c.args.budget.now, subst (λ i. executes c.args.source.now c.args.code.now (step_of i) m ≡ Fails → ⊥) c.in-CallIndirect.is c.requires.moves)

pub returns-in-Call-clause-moves : goal.returns-in-Call-clause-moves
returns-in-Call-clause-moves c =
    let m = machine_of c.args.machine.now c.args.budget.now in
    let new = machine_of c.call.new.machine c.args.budget.now in
    subst (λ i. IfOk c.call.result (λ o. IsMove (executes c.args.source.now c.args.code.now (step_of i) m) o new)) (sym c.in-Call.is)
    (if_ok c.call.result _ _ c.call.ensures (λ o h. h c.args.budget.now))

pub returns-in-CallIndirect-clause-moves : goal.returns-in-CallIndirect-clause-moves
returns-in-CallIndirect-clause-moves c =
    let m = machine_of c.args.machine.now c.args.budget.now in
    let new = machine_of c.call_by_table.new.machine c.args.budget.now in
    subst (λ i. IfOk c.call_by_table.result (λ o. IsMove (executes c.args.source.now c.args.code.now (step_of i) m) o new)) (sym c.in-CallIndirect.is)
    (if_ok c.call_by_table.result _ _ c.call_by_table.ensures (λ o h. h c.args.budget.now))
