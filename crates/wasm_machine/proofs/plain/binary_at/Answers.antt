use Rattle.std.proofs.Common.{refl, sym, ap, ◌∙◌, subst, arith, length}
use Rattle.wasm_spec.specs.declared.instructions.Numeric.TheVariants as numeric
use Rattle.wasm_spec.specs.Stores.{value_of}
use Rattle.wasm_spec.specs.Effects.{gives}
use Rattle.wasm_machine.specs.MachineState.{IsEffect}
use Rattle.wasm_machine.proofs.PlainLaws.{pair_top, pair_next, two_is}
use Rattle.wasm_machine.proofs.plain.binary_at.Goals as goal

pub pop_number-second-requires : goal.pop_number-second-requires
pop_number-second-requires g c = pair_top c.args.operand c.args.operand c.args.operands.now c.requires

pub top_number-first-requires : goal.top_number-first-requires
top_number-first-requires g c = pair_next c.args.operand c.args.operand c.pop_number-second.result c.args.operands.now c.pop_number-second.new.operands c.pop_number-second.ensures.number c.requires

pub give-requires-clause-some : goal.give-requires-clause-some
give-requires-clause-some g c = omega (arith, ap length c.top_number-first.ensures.number.1)

pub returns : goal.returns
returns g c =
    let o = numeric.Binary c.args.operand c.args.operation in
    let below = c.top_number-first.ensures.number.0 in
    let is = c.top_number-first.ensures.number.1 in
    λ locals store. subst (λ x. IsEffect x c.give.result c.give.new.operands locals store)
    (ap (λ n. gives o n below locals store) (c.binary.ensures.value)
    ∙ sym (two_is o c.args.operand c.top_number-first.result c.pop_number-second.result c.args.operands.now c.pop_number-second.new.operands below locals store c.pop_number-second.ensures.number is))
    (c.give.ensures o (value_of c.args.operand c.top_number-first.result) below locals store refl is)
