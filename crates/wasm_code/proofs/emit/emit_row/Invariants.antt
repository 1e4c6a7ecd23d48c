use Rattle.std.proofs.Common.{take}
use Rattle.wasm_code.specs.Emitted.{RowBegun}
use Rattle.wasm_code.proofs.emit.emit_row.Given as goal

abbrev pub invariant-loop-depth : goal.invariant-loop-depth
invariant-loop-depth l = RowBegun l.fn.out l.out l.height (take l.depth-index l.depths)
