use Rattle.std.proofs.Common.{◌≢◌, sym, subst}
use Rattle.wasm_machine.specs.Machine.{Fails, executes}
use Rattle.wasm_machine.specs.MachineState.{machine_of}
use Rattle.wasm_machine.specs.Quick.{IsQuick}
use Rattle.wasm_machine.proofs.OpLaws.{plain_step, plain_stays}
use Rattle.wasm_machine.proofs.quick.execute_plain.Goals as goal

pub go_on-requires-clause-other : goal.go_on-requires-clause-other
go_on-requires-clause-other c = plain_stays c.args.op.now c.requires.plain

pub go_on-requires-clause-moves : goal.go_on-requires-clause-moves
go_on-requires-clause-moves c =
    let m = machine_of c.args.machine.now c.args.budget.now in
    subst (λ s. executes c.args.source.now c.args.code.now s m ≢ Fails) (plain_step c.args.op.now c.requires.plain) c.requires.moves

pub returns : goal.returns
returns c =
    let m = machine_of c.args.machine.now c.args.budget.now in
    let n = machine_of c.go_on.new.machine c.args.budget.now in
    subst (λ s. IsQuick (executes c.args.source.now c.args.code.now s m) c.go_on.result n) (sym (plain_step c.args.op.now c.requires.plain)) c.go_on.ensures
