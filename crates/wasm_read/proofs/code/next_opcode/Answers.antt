use Rattle.std.proofs.Common.{drop, refl, sym, ◌∙◌}
use Rattle.wasm_read.proofs.CodeSteps.{first_of}
use Rattle.wasm_read.proofs.code.next_opcode.Goals as goal

pub returns-in-End : goal.returns-in-End
returns-in-End c = let h = c.in_ok-opcode.ensures in (c.in_ok-opcode.opcode, drop 1 c.args.input.now, first_of _ _ (sym c.peek.ensures ∙ h.ok_part), sym c.in-End.ensures, refl)
