use Rattle.std.proofs.Common.{◌≡◌, drop}
use Rattle.wasm_spec.specs.Instances.{with_data}
use Rattle.wasm_run.proofs.segments.put_data.Given as goal

abbrev pub invariant-loop-segment : goal.invariant-loop-segment
invariant-loop-segment l = with_data l.globals l.memory (drop l.segment-index l.segments) ≡ with_data l.globals l.initial.memory l.segments
