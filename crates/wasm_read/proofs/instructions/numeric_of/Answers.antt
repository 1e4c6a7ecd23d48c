use Rattle.std.proofs.Common.{sym, ◌∙◌, arith}
use Rattle.wasm_read.proofs.Opcodes.{comparison, arithmetic}
use Rattle.wasm_read.proofs.instructions.numeric_of.Goals as goal

pub returns-then-opcode-lt103 : goal.returns-then-opcode-lt103
returns-then-opcode-lt103 c = c.row_item.ensures ∙ sym (comparison c.args.opcode (omega arith) (omega arith))

pub returns-then-opcode-lt167 : goal.returns-then-opcode-lt167
returns-then-opcode-lt167 c = c.row_item-then-opcode-lt167.ensures ∙ sym (arithmetic c.args.opcode (omega arith) (omega arith))
