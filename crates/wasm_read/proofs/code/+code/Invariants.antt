use Rattle.std.proofs.Common.{◌+◌, ◌*◌, length}
use Rattle.wasm_read.proofs.CodeSteps.{SoFar}
use Rattle.wasm_read.proofs.code.+code.Given as goal

abbrev pub decreases-code : goal.decreases-code
decreases-code l = 6 * l.depth + 5

abbrev pub decreases-instruction : goal.decreases-instruction
decreases-instruction l = 6 * l.depth + 4

abbrev pub decreases-conditional : goal.decreases-conditional
decreases-conditional l = 6 * l.depth + 3

abbrev pub decreases-block : goal.decreases-block
decreases-block l = 6 * l.depth + 2

abbrev pub decreases-otherwise : goal.decreases-otherwise
decreases-otherwise l = 6 * l.depth + 1

abbrev pub decreases-inner : goal.decreases-inner
decreases-inner l = 6 * l.depth

abbrev pub invariant-code-loop-items : goal.invariant-code-loop-items
invariant-code-loop-items l = SoFar l.depth l.fn.input l.items.items l.input

abbrev pub decreases-code-loop-items : goal.decreases-code-loop-items
decreases-code-loop-items l = length l.input
