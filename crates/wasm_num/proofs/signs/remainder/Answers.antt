use Rattle.std.proofs.Common.{◌<◌, ◌^◌, ap, ◌∙◌, Some, w32, w64}
use Rattle.wasm_num.proofs.SignLaws.{remainder_by}
use Rattle.wasm_num.proofs.signs.remainder.Goals as goal

pub returns-in-I32-clause-value : goal.returns-in-I32-clause-value
returns-in-I32-clause-value c =
    let first : c.args.first < 2 ^ 32 = rw c.in-I32.is at c.requires.first in
    let second : c.args.second < 2 ^ 32 = rw c.in-I32.is at c.requires.second in
    rw c.in-I32.is (ap Some c.from.ensures ∙
    remainder_by w32 c.args.first c.args.second c.cast_unsigned.result c.cast_signed.result c.cast_signed-divisor.result c.wrapping_rem-left.result
    first second c.if-second-eq0.false c.cast_signed.type_inv c.cast_signed-divisor.type_inv c.wrapping_rem-left.type_inv
    c.cast_signed.ensures c.cast_signed-divisor.ensures c.wrapping_rem-left.ensures c.cast_unsigned.ensures)

pub returns-in-I64-clause-value : goal.returns-in-I64-clause-value
returns-in-I64-clause-value c =
    rw c.in-I64.is (remainder_by w64 c.args.first c.args.second c.cast_unsigned-in-I64.result c.cast_signed-in-I64.result c.cast_signed-in-I64-2.result c.wrapping_rem-left-in-I64.result
    c.ranges.first.fits c.ranges.second.fits c.if-second-eq0.false c.cast_signed-in-I64.type_inv c.cast_signed-in-I64-2.type_inv c.wrapping_rem-left-in-I64.type_inv
    c.cast_signed-in-I64.ensures c.cast_signed-in-I64-2.ensures c.wrapping_rem-left-in-I64.ensures c.cast_unsigned-in-I64.ensures)
