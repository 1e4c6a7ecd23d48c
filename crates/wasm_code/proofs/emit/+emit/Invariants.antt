use Rattle.std.proofs.Common.{◌+◌, ◌*◌, ◌≤◌, length, take}
use Rattle.wasm_spec.specs.Code.{size_of}
use Rattle.wasm_spec.specs.Views.{code_of}
use Rattle.wasm_code.specs.Emitted.{Emitted}
use Rattle.wasm_code.proofs.CodeLaws.{weight}
use Rattle.wasm_code.proofs.EmitLaws.{all_before}
use Rattle.wasm_code.proofs.emit.+emit.Given as goal

abbrev pub decreases-emit_one : goal.decreases-emit_one
decreases-emit_one l = 2 * weight l.instruction.now

abbrev pub decreases-emit_all : goal.decreases-emit_all
decreases-emit_all l = 2 * size_of (code_of l.instructions.now) + 1

abbrev pub invariant-emit_all-loop-instruction : goal.invariant-emit_all-loop-instruction
invariant-emit_all-loop-instruction l = record {
  placed : Emitted l.module l.fn.out l.out l.height l.current_height (all_before (take l.instruction-index l.instructions));
  bound : l.current_height ≤ length l.out.steps;
}
