use Rattle.std.proofs.Common.{◌≡◌, false, take}
use Rattle.stage_plan.specs.DeclaredKeys.{read_keys, kept_all}
use Rattle.stage_plan.proofs.cluster_keys.keep_read.Given as goal

abbrev pub invariant-loop-envelope : goal.invariant-loop-envelope
invariant-loop-envelope l = l.keys ≡ kept_all false l.fn.keys (read_keys (take l.envelope-index l.envelopes))
