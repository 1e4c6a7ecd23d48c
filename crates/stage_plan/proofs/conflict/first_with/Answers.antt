use Rattle.ledger_spec.specs.LedgerMap.{key_bytes}
use Rattle.stage_plan.proofs.Clusters.{envelopes_of, envelopes_at, cluster_spelled, none_more, none_after, first_found}
use Rattle.stage_plan.proofs.conflict.first_with.Goals as goal

pub least_meeting-requires-clause-first : goal.least_meeting-requires-clause-first
least_meeting-requires-clause-first c = cluster_spelled c.args.clusters.now c.args.a c.index-clusters-a.result c.requires.spelled c.requires.within c.index-clusters-a.is

pub least_meeting-requires-clause-second : goal.least_meeting-requires-clause-second
least_meeting-requires-clause-second c = cluster_spelled c.args.clusters.now c.loop-b.b c.index-clusters-b.result c.requires.spelled c.loop-b-test.true c.index-clusters-b.is

pub returns-in-Some-clause-some : goal.returns-in-Some-clause-some
returns-in-Some-clause-some c =
    first_found (envelopes_of c.args.clusters.now) c.args.a c.loop-b.b c.index-clusters-a.result.envelopes c.index-clusters-b.result.envelopes (key_bytes c.in-Some.key.now)
    c.loop-b.auto.b
    (envelopes_at c.args.clusters.now c.args.a c.index-clusters-a.result c.requires.within c.index-clusters-a.is)
    (envelopes_at c.args.clusters.now c.loop-b.b c.index-clusters-b.result c.loop-b-test.true c.index-clusters-b.is)
    c.in-Some.ensures c.loop-b.invariant

pub loop-b-preserved : goal.loop-b-preserved
loop-b-preserved c =
    none_more (envelopes_of c.args.clusters.now) c.args.a c.loop-b.b c.index-clusters-a.result.envelopes c.index-clusters-b.result.envelopes
    (envelopes_at c.args.clusters.now c.args.a c.index-clusters-a.result c.requires.within c.index-clusters-a.is)
    (envelopes_at c.args.clusters.now c.loop-b.b c.index-clusters-b.result c.loop-b-test.true c.index-clusters-b.is)
    c.in_default.ensures c.loop-b.invariant

pub returns-clause-none : goal.returns-clause-none
returns-clause-none c = none_after c.args.clusters.now c.args.a c.loop-b.b c.loop-b-test.false c.loop-b.invariant
