use Rattle.std.proofs.Common.{◌≡◌, subst}
use Rattle.wasm_code.specs.Ops.{step_of}
use Rattle.wasm_machine.specs.Machine.{Fails, executes}
use Rattle.wasm_machine.specs.MachineState.{machine_of}
use Rattle.wasm_machine.proofs.quick.branch.Goals as goal

pub unless-requires-clause-moves : goal.unless-requires-clause-moves
unless-requires-clause-moves c =
    let m = machine_of c.args.machine.now c.args.budget.now in
    (c.args.budget.now, subst (λ i. executes c.args.source.now c.args.code.now (step_of i) m ≡ Fails → ⊥) c.in-Unless.is c.requires.moves)

pub jump-requires : goal.jump-requires
jump-requires c =
    let m = machine_of c.args.machine.now c.args.budget.now in
    (c.args.budget.now, subst (λ i. executes c.args.source.now c.args.code.now (step_of i) m ≡ Fails → ⊥) c.in-Jump.is c.requires.moves)

pub jump_if-requires-clause-moves : goal.jump_if-requires-clause-moves
jump_if-requires-clause-moves c =
    let m = machine_of c.args.machine.now c.args.budget.now in
    (c.args.budget.now, subst (λ i. executes c.args.source.now c.args.code.now (step_of i) m ≡ Fails → ⊥) c.in-JumpIf.is c.requires.moves)

pub jump_by_table-requires-clause-moves : goal.jump_by_table-requires-clause-moves
jump_by_table-requires-clause-moves c =
    let m = machine_of c.args.machine.now c.args.budget.now in
    (c.args.budget.now, subst (λ i. executes c.args.source.now c.args.code.now (step_of i) m ≡ Fails → ⊥) c.in-Table.is c.requires.moves)
