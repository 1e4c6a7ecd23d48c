use Rattle.std.proofs.Common.{map}
use Rattle.stage_plan.proofs.Clusters.{NoneFrom}
use Rattle.stage_plan.proofs.conflict.first_conflict.Given as goal

abbrev pub invariant-loop-a : goal.invariant-loop-a
invariant-loop-a l = NoneFrom (map (λ c. c.envelopes) l.clusters) l.a
