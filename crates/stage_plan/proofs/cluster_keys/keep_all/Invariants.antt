use Rattle.std.proofs.Common.{◌≡◌, take}
use Rattle.stage_plan.specs.DeclaredKeys.{kept_all}
use Rattle.stage_plan.proofs.cluster_keys.keep_all.Given as goal

abbrev pub invariant-loop-key : goal.invariant-loop-key
invariant-loop-key l = l.keys ≡ kept_all l.writes l.fn.keys (take l.key-index l.more)
