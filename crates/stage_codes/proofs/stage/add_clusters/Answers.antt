use Rattle.std.proofs.Common.{subst, sym}
use Rattle.stage_plan.specs.DeclaredKeys.{read_keys}
use Rattle.stage_plan.specs.Spelled.{IsCluster}
use Rattle.stage_plan.proofs.Lemmas.{cluster_spelled}
use Rattle.stage_codes.specs.Found.{Adds}
use Rattle.stage_codes.proofs.Ordered.{adds_of}
use Rattle.stage_codes.proofs.stage.add_clusters.Goals as goal

pub add_cluster-requires-clause-spelled : goal.add_cluster-requires-clause-spelled
add_cluster-requires-clause-spelled g c =
    subst IsCluster (sym c.as_slice.ensures)
    (cluster_spelled c.args.clusters.now c.loop-cluster.cluster-index c.cluster-item.result c.requires.spelled c.loop-cluster-test.true c.cluster-item.is)

pub loop-cluster-preserved : goal.loop-cluster-preserved
loop-cluster-preserved g c =
    adds_of (λ k. read_keys k.envelopes) (g.G.Ground.map c.args.ground.now) c.args.codes.now c.loop-cluster.codes c.add_cluster.new.codes c.args.clusters.now
    c.loop-cluster.cluster-index c.cluster-item.result c.loop-cluster-test.true c.cluster-item.is c.loop-cluster.invariant
    (subst (λ es. Adds (g.G.Ground.map c.args.ground.now) c.loop-cluster.codes c.add_cluster.new.codes (read_keys es)) c.as_slice.ensures c.in_ok-add_cluster.ensures)
