use Rattle.std.proofs.Common.{◌≡◌, ◌+◌, ◌*◌, drop}
use Rattle.wasm_spec.specs.Code.{size_of}
use Rattle.wasm_spec.specs.Views.{code_of}
use Rattle.module_spec.specs.Check.{check_code}
use Rattle.wasm_check.specs.Contexts.{context_in}
use Rattle.wasm_check.proofs.CodeSteps.{weight}
use Rattle.wasm_check.proofs.code.+check.Given as goal

abbrev pub decreases-check_body : goal.decreases-check_body
decreases-check_body l = 3 * size_of (code_of l.body.now) + 2

abbrev pub decreases-check_all : goal.decreases-check_all
decreases-check_all l = 3 * size_of (code_of l.instructions.now) + 1

abbrev pub decreases-check_one : goal.decreases-check_one
decreases-check_one l = 3 * weight l.instruction.now

abbrev pub invariant-check_all-loop-instruction : goal.invariant-check_all-loop-instruction
invariant-check_all-loop-instruction l = (context_in l.module l.scope ≡ context_in l.module l.fn.scope)
    × (check_code (context_in l.module l.fn.scope) (code_of l.instructions) l.fn.stack ≡ check_code (context_in l.module l.fn.scope) (code_of (drop l.instruction-index l.instructions)) l.stack)
