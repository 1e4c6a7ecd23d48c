use Rattle.std.proofs.Common.{List, All, sym, subst}
use Rattle.tx_xdr.specs.declared.set.Cluster as sets
use Rattle.stage_runs.specs.Runs.{clusters_in}
use Rattle.stage_plan.specs.Spelled.{IsCluster}
use Rattle.stage_plan.proofs.Spots.{known_answer, some_answer, none_answer}
use Rattle.stage_plan.proofs.meeting.find_conflict.Goals as goal

pub note_clusters-requires-clause-spelled : goal.note_clusters-requires-clause-spelled
note_clusters-requires-clause-spelled c = subst (λ (xs : List sets.Cluster). All (λ x. IsCluster x.envelopes) xs) (sym c.as_slice.ensures) c.requires.spelled

pub returns-clause-some : goal.returns-clause-some
returns-clause-some c =
    some_answer (clusters_in c.args.stage.now) c.least.result
    (known_answer c.args.stage.now.clusters c.as_slice.result.now c.note_clusters.new.met c.least.result c.as_slice.ensures c.in_ok-note_clusters.ensures c.least.ensures.spot)

pub returns-clause-none : goal.returns-clause-none
returns-clause-none c =
    none_answer (clusters_in c.args.stage.now) c.least.result
    (known_answer c.args.stage.now.clusters c.as_slice.result.now c.note_clusters.new.met c.least.result c.as_slice.ensures c.in_ok-note_clusters.ensures c.least.ensures.spot)
