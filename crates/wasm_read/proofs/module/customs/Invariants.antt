use Rattle.std.proofs.Common.{◌≡◌, length}
use Rattle.wasm_read.specs.Reading.{customs_at}
use Rattle.wasm_read.proofs.module.customs.Given as goal

abbrev pub invariant-loop-input : goal.invariant-loop-input
invariant-loop-input l = customs_at l.initial.input ≡ customs_at l.input

abbrev pub decreases-loop-input : goal.decreases-loop-input
decreases-loop-input l = length l.input
