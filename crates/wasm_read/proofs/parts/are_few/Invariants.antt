use Rattle.std.proofs.Common.{◌≡◌, ◌^◌, ◌<◌, take}
use Rattle.wasm_spec.specs.Binary.{locals_count}
use Rattle.wasm_read.proofs.parts.are_few.Given as goal

abbrev pub invariant-loop-group : goal.invariant-loop-group
invariant-loop-group l = (l.count ≡ locals_count (take l.group-index l.groups)) × (l.count < 2 ^ 32)
