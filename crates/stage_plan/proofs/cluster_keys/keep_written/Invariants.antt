use Rattle.std.proofs.Common.{◌≡◌, true, take}
use Rattle.stage_runs.specs.Runs.{written_keys}
use Rattle.stage_plan.specs.DeclaredKeys.{kept_all}
use Rattle.stage_plan.proofs.cluster_keys.keep_written.Given as goal

abbrev pub invariant-loop-envelope : goal.invariant-loop-envelope
invariant-loop-envelope l = l.keys ≡ kept_all true l.fn.keys (written_keys (take l.envelope-index l.envelopes))
