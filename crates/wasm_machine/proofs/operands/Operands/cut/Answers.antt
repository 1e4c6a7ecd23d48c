use Rattle.wasm_spec.specs.declared.values.Value.{Value}
use Rattle.std.proofs.Common.{List, ◌+◌, ◌-◌, refl, sym, ap, ◌∙◌, Some, arith}
use Rattle.std.specs.Prelude.{reverse}
use Rattle.wasm_machine.specs.Machine.{cut}
use Rattle.wasm_machine.proofs.Stack.{cut_length, cut_view}
use Rattle.wasm_machine.proofs.operands.Operands.cut.Goals as goal

pub overflow_sub-top-in-Some : goal.overflow_sub-top-in-Some
overflow_sub-top-in-Some c =
    let some = rw (c.in-Some.is, ← c.self.view_is) at c.requires in
    omega (arith, cut_length c.in-Some.field-0 c.self.inside.values.items c.args.count some, c.len-top.ensures, c.self.inside.values.ok.0)

pub overflow_sub-top-in-Some-2 : goal.overflow_sub-top-in-Some-2
overflow_sub-top-in-Some-2 c =
    let some = rw (c.in-Some.is, ← c.self.view_is) at c.requires in
    omega (arith, cut_length c.in-Some.field-0 c.self.inside.values.items c.args.count some, c.len-top.ensures, c.self.inside.values.ok.0)

pub returns-in-Some : goal.returns-in-Some
returns-in-Some c =
    let xs = c.self.inside.values.items in
    let some = rw (c.in-Some.is, ← c.self.view_is) at c.requires in
    let top = c.len-top.result - 1 in
    ap (λ o. cut o c.args.count c.args.self.now) c.in-Some.is
    ∙ ap (cut (Some c.in-Some.field-0) c.args.count) (sym c.self.view_is)
    ∙ cut_view c.in-Some.field-0 xs c.args.count top (top - c.args.count) (top + 1 - c.args.count) c.index.result.now (omega (arith, c.len-top.ensures, c.self.inside.values.ok.0)) refl refl c.index.ensures some
    ∙ ap (λ (l : List Value). Some (reverse l)) (sym c.truncate.ensures.items)
