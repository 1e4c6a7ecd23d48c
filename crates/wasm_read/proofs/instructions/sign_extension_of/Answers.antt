use Rattle.std.proofs.Common.{sym, ◌∙◌}
use Rattle.wasm_read.proofs.Opcodes.{sign_extension}
use Rattle.wasm_read.proofs.instructions.sign_extension_of.Goals as goal

pub returns : goal.returns
returns c = c.row_item.ensures ∙ sym (sign_extension c.args.opcode c.if-opcode-lt192.false)
