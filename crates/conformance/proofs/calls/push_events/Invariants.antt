use Rattle.std.proofs.Common.{◌≡◌}
use Rattle.wasm_run.specs.declared.instance.CallPhase.TheVariants as phase
use Rattle.wasm_spec.specs.Code.{BlockType}
use Rattle.std.specs.Bool.{OnTrue}
use Rattle.conformance.proofs.calls.push_events.Given as goal

-- an import waits for its answer
abbrev pub invariant-loop-round : goal.invariant-loop-round
invariant-loop-round l = OnTrue l.is_asked ((r : BlockType) × (l.instance.phase ≡ phase.Waiting r))
