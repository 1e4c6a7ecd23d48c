use Rattle.std.proofs.Common.{refl, sym, ap, ◌∙◌, subst, arith, length}
use Rattle.wasm_spec.specs.declared.instructions.Numeric.TheVariants as numeric
use Rattle.wasm_spec.specs.Stores.{value_of}
use Rattle.wasm_spec.specs.Effects.{gives}
use Rattle.wasm_machine.specs.MachineState.{IsEffect}
use Rattle.wasm_machine.proofs.PlainLaws.{one_is}
use Rattle.wasm_machine.proofs.plain.apply_test.Goals as goal

pub give-requires-clause-some : goal.give-requires-clause-some
give-requires-clause-some c = omega (arith, ap length c.top_number-number.ensures.number.1)

pub returns : goal.returns
returns c =
    let o = numeric.Eqz c.args.operand in
    let below = c.top_number-number.ensures.number.0 in
    let is = c.top_number-number.ensures.number.1 in
    λ locals store. subst (λ x. IsEffect x c.give.result c.give.new.operands locals store)
    (ap (λ n. gives o n below locals store) (c.tested.ensures.value)
    ∙ sym (one_is o c.args.operand c.top_number-number.result c.args.operands.now below locals store is))
    (c.give.ensures o (value_of c.args.operand c.top_number-number.result) below locals store refl is)
