use Rattle.std.proofs.Common.{◌≡◌, map, take}
use Rattle.set_steps.proofs.search.searches_of.Given as goal

abbrev pub invariant-loop-stage : goal.invariant-loop-stage
invariant-loop-stage l = map (λ s. s.stage) l.searches.items ≡ take l.stage-index l.stages
