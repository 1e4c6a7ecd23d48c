use Rattle.std.proofs.Common.{◌+◌, refl, arith}
use Rattle.wasm_machine.proofs.Stack.{put_more}
use Rattle.wasm_machine.proofs.operands.put_numbers.Goals as goal

pub loop-index-preserved : goal.loop-index-preserved
loop-index-preserved c = put_more c.loop-index.index (c.loop-index.index + 1) c.args.numbers.now c.args.values.now c.loop-index.values c.loop-index.invariant refl (omega arith) (omega arith)
