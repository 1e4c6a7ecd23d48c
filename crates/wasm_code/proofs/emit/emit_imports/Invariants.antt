use Rattle.std.proofs.Common.{◌≡◌, []}
use Rattle.wasm_code.specs.Emitted.{ImportsAt}
use Rattle.wasm_code.proofs.emit.emit_imports.Given as goal

abbrev pub invariant-loop-import : goal.invariant-loop-import
invariant-loop-import l = record {
  labels : l.out.labels ≡ [];
  steps : ImportsAt l.import l.out.steps;
}
