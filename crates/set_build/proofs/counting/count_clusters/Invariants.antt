use Rattle.std.proofs.Common.{◌≡◌, map, take}
use Rattle.stage_runs.specs.Runs.{clusters_in}
use Rattle.set_build.specs.Placed.{cluster_count}
use Rattle.set_build.proofs.counting.count_clusters.Given as goal

abbrev pub invariant-loop-stage : goal.invariant-loop-stage
invariant-loop-stage l = l.count ≡ cluster_count (map clusters_in (take l.stage-index l.stages))
