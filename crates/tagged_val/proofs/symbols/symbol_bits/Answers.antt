use Rattle.std.proofs.Common.{◌≤◌, arith}
use Rattle.tagged_val.proofs.Caps.{cap-small}
use Rattle.tagged_val.proofs.symbols.symbol_bits.Goals as goal

pub overflow_add-bits : goal.overflow_add-bits
overflow_add-bits c =
    let few : c.loop-byte.byte-index ≤ 9 = omega arith in
    omega (arith, cap-small c.loop-byte.byte-index few, c.loop-byte.invariant.2, c.in-Some.ensures.small)

pub returns-clause-small : goal.returns-clause-small
returns-clause-small c =
    let few : c.loop-byte.byte-index ≤ 9 = omega arith in
    omega (arith, cap-small c.loop-byte.byte-index few, c.loop-byte.invariant.2)
