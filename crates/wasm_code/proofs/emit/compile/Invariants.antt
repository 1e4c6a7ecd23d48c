use Rattle.std.proofs.Common.{take}
use Rattle.wasm_code.proofs.EmitLaws.{Compiling}
use Rattle.wasm_code.proofs.emit.compile.Given as goal

abbrev pub invariant-loop-function : goal.invariant-loop-function
invariant-loop-function l = Compiling l.module l.out (take l.function-index l.function-items) l.entries.items
