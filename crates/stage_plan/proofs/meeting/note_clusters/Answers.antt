use Rattle.std.proofs.Common.{◌+◌, sym, subst}
use Rattle.stage_plan.specs.Meetings.{AreKnown}
use Rattle.stage_plan.proofs.Clusters.{envelopes_of, envelopes_at, cluster_spelled}
use Rattle.stage_plan.proofs.Meetings.{none_known, more_known}
use Rattle.stage_plan.proofs.meeting.note_clusters.Goals as goal

pub loop-number-init : goal.loop-number-init
loop-number-init c = subst (AreKnown (envelopes_of c.args.clusters.now) 0) (sym c.requires.none) (none_known (envelopes_of c.args.clusters.now))

pub note_cluster-requires : goal.note_cluster-requires
note_cluster-requires c = cluster_spelled c.args.clusters.now c.loop-number.number c.index-clusters-number.result c.requires.spelled c.loop-number-test.true c.index-clusters-number.is

pub loop-number-preserved : goal.loop-number-preserved
loop-number-preserved c =
    subst (AreKnown (envelopes_of c.args.clusters.now) (c.loop-number.number + 1)) (sym c.in_ok-note_cluster.ensures)
    (more_known (envelopes_of c.args.clusters.now) c.loop-number.number c.loop-number.met c.index-clusters-number.result.envelopes
    (envelopes_at c.args.clusters.now c.loop-number.number c.index-clusters-number.result c.loop-number-test.true c.index-clusters-number.is)
    c.loop-number.invariant)
