use Rattle.std.proofs.Common.{map}
use Rattle.stage_plan.proofs.Clusters.{NoneBefore}
use Rattle.stage_plan.proofs.conflict.first_with.Given as goal

abbrev pub invariant-loop-b : goal.invariant-loop-b
invariant-loop-b l = NoneBefore (map (λ c. c.envelopes) l.clusters) l.a l.b
