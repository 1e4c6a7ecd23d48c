use Rattle.std.proofs.Common.{vec_len}
use Rattle.wasm_read.proofs.ModuleSteps.{Made}
use Rattle.wasm_read.proofs.module.functions.Given as goal

abbrev pub invariant-loop-locals : goal.invariant-loop-locals
invariant-loop-locals l = Made l.indices l.initial.funcs.items l.funcs.items l.functions.items

abbrev pub decreases-loop-locals : goal.decreases-loop-locals
decreases-loop-locals l = vec_len l.funcs
