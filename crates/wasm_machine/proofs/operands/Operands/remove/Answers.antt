use Rattle.wasm_spec.specs.declared.values.Value.{Value}
use Rattle.std.proofs.Common.{IsSome, List, ◌-◌, sym, ap, subst, ◌∙◌, Some, arith}
use Rattle.std.specs.Prelude.{reverse}
use Rattle.wasm_machine.specs.Machine.{removed}
use Rattle.wasm_machine.proofs.Stack.{removed_length, removed_view}
use Rattle.wasm_machine.proofs.operands.Operands.remove.Goals as goal

pub overflow_sub-len : goal.overflow_sub-len
overflow_sub-len c =
    let some = subst (λ (l : List Value). IsSome (removed c.args.count l)) (sym c.self.view_is) c.requires in
    omega (arith, removed_length c.self.inside.values.items c.args.count some, c.len.ensures, c.self.inside.values.ok.0)

pub returns : goal.returns
returns c =
    let xs = c.self.inside.values.items in
    let some = subst (λ (l : List Value). IsSome (removed c.args.count l)) (sym c.self.view_is) c.requires in
    ap (removed c.args.count) (sym c.self.view_is)
    ∙ removed_view xs c.args.count (c.len.result - c.args.count) (omega (arith, c.len.ensures, c.self.inside.values.ok.0)) some
    ∙ ap (λ (l : List Value). Some (reverse l)) (sym c.truncate.ensures.items)
