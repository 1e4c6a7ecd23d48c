use Rattle.std.proofs.Common.{◌++◌, List, sym, ap, ◌∙◌, arith}
use Rattle.wasm_spec.specs.declared.values.Value.{Value}
use Rattle.wasm_spec.specs.declared.module.Locals.{Locals}
use Rattle.wasm_machine.specs.Numbers.{first_locals}
use Rattle.wasm_machine.proofs.CallLaws.{zeros_of, take_whole}
use Rattle.wasm_machine.proofs.calls.add_locals.Goals as goal

pub returns : goal.returns
returns c =
    let gs = c.as_slice-group-items.result.now in
    let put = λ (x : List Locals). c.args.locals.now.items ++ first_locals x in
    c.loop-group.invariant ∙ ap put (take_whole gs c.loop-group.group-index (omega arith)) ∙ ap put c.as_slice-group-items.ensures
    ∙ ap (λ (x : List Value). c.args.locals.now.items ++ x) (sym (zeros_of c.args.function.now.locals))
