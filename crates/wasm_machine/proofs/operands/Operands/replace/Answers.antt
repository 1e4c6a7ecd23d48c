use Rattle.std.proofs.Common.{◌-◌, ◌∙◌, arith}
use Rattle.wasm_machine.proofs.Stack.{top_replaced}
use Rattle.wasm_machine.proofs.operands.Operands.replace.Goals as goal

pub returns : goal.returns
returns c = λ v below e.
    let xs = c.self.inside.values.items in
    top_replaced xs below v c.args.value (c.len-top.result - 1) (c.self.view_is ∙ e) (omega (arith, c.len-top.ensures, c.self.inside.values.ok.0))
