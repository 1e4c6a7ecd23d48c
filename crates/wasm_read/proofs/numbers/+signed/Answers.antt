use Rattle.std.proofs.Common.{◌<◌, arith}
use Rattle.wasm_read.proofs.Powers.{pow_split, pow_64, large_value}
use Rattle.wasm_read.proofs.numbers.+signed.Goals as goal

pub overflow_mul-result : goal.overflow_mul-result
overflow_mul-result t c = omega (arith, c.in_ok-high.ensures.fits, pow_split c.args.bits (omega arith), pow_64 c.args.bits c.requires.most)

pub overflow_add-result : goal.overflow_add-result
overflow_add-result t c =
    let first : c.from-byte.result < 256 = omega (arith, c.from-byte.ensures, c.type_inv.bytes 0) in
    omega (arith, large_value c.args.bits c.in_ok-high.high c.from-byte.result (omega arith) c.in_ok-high.ensures.fits first, pow_64 c.args.bits c.requires.most)

pub returns-in_ok-high-clause-fits : goal.returns-in_ok-high-clause-fits
returns-in_ok-high-clause-fits t c =
    let first : c.from-byte.result < 256 = omega (arith, c.from-byte.ensures) in
    large_value c.args.bits c.in_ok-high.high c.from-byte.result (omega arith) c.in_ok-high.ensures.fits first
