use Rattle.std.proofs.Common.{◌≡◌, drop}
use Rattle.wasm_spec.specs.Instances.{with_elements}
use Rattle.wasm_run.proofs.segments.put_elements.Given as goal

abbrev pub invariant-loop-element : goal.invariant-loop-element
invariant-loop-element l = with_elements l.globals l.table (drop l.element-index l.elements) ≡ with_elements l.globals l.initial.table l.elements
