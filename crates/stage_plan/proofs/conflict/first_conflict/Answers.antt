use Rattle.std.proofs.Common.{List, All, sym, subst}
use Rattle.tx_xdr.specs.declared.set.Cluster as sets
use Rattle.stage_runs.specs.Runs.{HasNoConflict}
use Rattle.stage_plan.specs.Spelled.{IsCluster}
use Rattle.stage_plan.proofs.Clusters.{envelopes_of, none_from_more, none_at_all}
use Rattle.stage_plan.proofs.conflict.first_conflict.Goals as goal

pub first_with-requires-clause-spelled : goal.first_with-requires-clause-spelled
first_with-requires-clause-spelled c = subst (λ (xs : List sets.Cluster). All (λ x. IsCluster x.envelopes) xs) (sym c.as_slice-clusters.ensures) c.requires.spelled

pub loop-a-preserved : goal.loop-a-preserved
loop-a-preserved c = none_from_more (envelopes_of c.as_slice-clusters.result.now) c.loop-a.a c.in_default.ensures.none c.loop-a.invariant

pub returns-clause-none : goal.returns-clause-none
returns-clause-none c =
    subst (λ (xs : List sets.Cluster). HasNoConflict (envelopes_of xs)) c.as_slice-clusters.ensures
    (none_at_all c.as_slice-clusters.result.now c.loop-a.a c.loop-a-test.false c.loop-a.invariant)
