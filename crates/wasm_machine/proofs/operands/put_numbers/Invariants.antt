use Rattle.std.proofs.Common.{◌≡◌, ◌++◌, map, take, drop}
use Rattle.wasm_spec.specs.declared.values.Value.TheVariants as value
use Rattle.wasm_machine.proofs.operands.put_numbers.Given as goal

abbrev pub invariant-loop-index : goal.invariant-loop-index
invariant-loop-index l = l.values ≡ map value.I64 (take l.index l.numbers) ++ drop l.index l.initial.values
