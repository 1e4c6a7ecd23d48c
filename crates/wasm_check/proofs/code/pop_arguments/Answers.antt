use Rattle.std.proofs.Common.{take, reverse}
use Rattle.wasm_check.proofs.CodeSteps.{pops_stop}
use Rattle.wasm_check.proofs.code.pop_arguments.Goals as goal

pub returns-else-not-is_bottomless : goal.returns-else-not-is_bottomless
returns-else-not-is_bottomless c = pops_stop c.is_bottomless.result c.loop-left.stack (reverse (take c.loop-left.left c.args.types.now)) _ c.is_bottomless.ensures c.if-not-is_bottomless.false c.loop-left.invariant.1
