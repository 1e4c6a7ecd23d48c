use Rattle.std.proofs.Common.{length, refl, ap, ◌∙◌}
use Rattle.std.proofs.lemmas.Option.{slice_get_read}
use Rattle.std.proofs.lemmas.Result.{IfOk-weaker}
use Rattle.tx_xdr.specs.declared.set.Cluster.{Cluster as SetCluster}
use Rattle.stage_runs.specs.Runs.{Cluster}
use Rattle.apply_spec.specs.Enforced.{enforced}
use Rattle.set_steps.specs.State.{between}
use Rattle.set_place.specs.Places.{met_in_cluster}
use Rattle.set_place.specs.Reaching.{in_stage}
use Rattle.set_place.proofs.Reaching.{met_inside}
use Rattle.set_place.proofs.stage.reach_in_clusters.Goals as goal

pub returns-in_ok-_left-in-Some-clause-met : goal.returns-in_ok-_left-in-Some-clause-met
returns-in_ok-_left-in-Some-clause-met c =
    let step = enforced c.args.header.now c.args.verdicts.now in
    let env = λ (k : SetCluster). let txs : Cluster = k.envelopes in txs in
    let old = c.args.ledger.now.entries in
    let mid = c.run_clusters.new.ledger.entries in
    let place = c.args.place in
    let clusters = c.args.clusters.now in
    let cluster = c.in-Some.cluster.now in
    let at = slice_get_read clusters (length clusters) place.cluster cluster refl c.in-Some.ensures.lookup.3.0 c.in-Some.ensures.lookup.1 in
    IfOk-weaker c.reach_in_cluster.result _ _
    (λ o met reports. met_inside env step (between old reports) (in_stage mid reports c.in_ok-_left-in-Some._left.items) clusters
    place.cluster place.transaction cluster _ at (c.in_ok-_left-in-Some.ensures.run reports)
    (met ∙ ap (λ (txs : Cluster). met_in_cluster step mid place.transaction txs) c.as_slice-envelopes.ensures))
    c.reach_in_cluster.ensures.met
