use Rattle.std.proofs.Common.{◌≡◌, ◌++◌, take}
use Rattle.wasm_machine.specs.Numbers.{first_locals}
use Rattle.wasm_machine.proofs.calls.add_locals.Given as goal

abbrev pub invariant-loop-group : goal.invariant-loop-group
invariant-loop-group l = l.locals.items ≡ l.initial.locals.items ++ first_locals (take l.group-index l.group-items)
