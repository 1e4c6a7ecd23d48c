use Rattle.std.proofs.Common.{◌≡◌, ◌++◌, take}
use Rattle.wasm_spec.specs.Typing.{local_types}
use Rattle.wasm_check.proofs.module.all_locals.Given as goal

abbrev pub invariant-loop-group : goal.invariant-loop-group
invariant-loop-group l = l.types.items ≡ l.params ++ local_types (take l.group-index l.groups)
