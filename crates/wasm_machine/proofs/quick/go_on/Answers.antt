use Rattle.wasm_code.specs.Ops.{plain_of}
use Rattle.wasm_machine.specs.MachineState.{machine_of}
use Rattle.wasm_machine.proofs.PlainLaws.{can_apply}
use Rattle.wasm_machine.proofs.quick.go_on.Goals as goal

pub apply-requires-clause-able : goal.apply-requires-clause-able
apply-requires-clause-able c =
    can_apply (plain_of c.args.op.now) c.args.machine.now.operands c.args.machine.now.locals.items c.args.machine.now.store (machine_of c.args.machine.now c.args.budget.now) c.requires.other c.requires.moves
