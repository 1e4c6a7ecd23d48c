use Rattle.std.proofs.Common.{Some, sym, subst}
use Rattle.std.specs.Prelude.{IfOk}
use Rattle.wasm_machine.specs.Machine.{calls_element}
use Rattle.wasm_machine.specs.MachineState.{Moves}
use Rattle.wasm_machine.proofs.calls.call_element.Goals as goal

pub returns-in-Some : goal.returns-in-Some
returns-in-Some c =
    subst (λ x. IfOk c.call_typed.result (λ o. Moves (calls_element c.args.source.now c.args.code.now c.args.wanted.now (Some x)) c.args.machine.now o c.call_typed.new.machine)) (sym c.in-Some.is) c.call_typed.ensures
