use Rattle.std.proofs.Common.{◌≡◌, ◌-◌, drop, replicate}
use Rattle.wasm_spec.specs.declared.types.ValueType.TheVariants.{I64}
use Rattle.wasm_spec.specs.Meaning.{same_types}
use Rattle.wasm_run.proofs.export.are_words.Given as goal

abbrev pub invariant-loop-value_type : goal.invariant-loop-value_type
invariant-loop-value_type l = same_types l.types (replicate l.count I64) ≡ same_types (drop l.value_type-index l.types) (replicate (l.count - l.value_type-index) I64)
