use Rattle.std.proofs.Common.{take}
use Rattle.stage_codes.specs.Found.{Adds, stage_keys}
use Rattle.stage_codes.proofs.stage.add_clusters.Given as goal

abbrev pub invariant-loop-cluster : goal.invariant-loop-cluster
invariant-loop-cluster g l = Adds (g.G.Ground.map l.ground) l.fn.codes l.codes (stage_keys (take l.cluster-index l.clusters))
