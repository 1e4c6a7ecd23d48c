use Rattle.std.proofs.Common.{take}
use Rattle.std.specs.List.{AllByRecursion}
use Rattle.wasm_spec.specs.Typing.{FunctionTyped}
use Rattle.wasm_check.proofs.module.check_bodies.Given as goal

abbrev pub invariant-loop-index : goal.invariant-loop-index
invariant-loop-index l = AllByRecursion (FunctionTyped l.module) (take l.index l.module.functions)
