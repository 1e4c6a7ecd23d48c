use Rattle.std.proofs.Common.{◌≡◌, ◌+◌, ◌≤◌, length, take}
use Rattle.wasm_spec.specs.Binary.{locals_count}
use Rattle.wasm_check.proofs.module.are_few.Given as goal

abbrev pub invariant-loop-group : goal.invariant-loop-group
invariant-loop-group l = (l.count ≡ length l.params + locals_count (take l.group-index l.groups)) × (l.count ≤ 4096)
