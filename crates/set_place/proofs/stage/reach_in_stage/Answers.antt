use Rattle.std.proofs.Common.{◌≡◌, ◌∷◌, [], List, map, sym, ap, subst, ◌∙◌}
use Rattle.std.proofs.lemmas.Result.{IfOk-weaker}
use Rattle.tx_xdr.specs.declared.set.Cluster.{Cluster as SetCluster}
use Rattle.stage_runs.specs.Transactions.{Envelope}
use Rattle.stage_runs.specs.Runs.{Cluster, Stage, clusters_in}
use Rattle.apply_spec.specs.Enforced.{enforced}
use Rattle.set_steps.specs.Spelled.{AreEnvelopes}
use Rattle.set_steps.specs.Stages.{stage_of}
use Rattle.set_steps.specs.State.{between}
use Rattle.set_steps.specs.declared.stages.SetStage.{SetStage}
use Rattle.set_steps.proofs.Lemmas.{component_in}
use Rattle.set_place.specs.Places.{met_in_stage}
use Rattle.set_place.proofs.stage.reach_in_stage.Goals as goal

pub reach_in_component-requires-clause-fits : goal.reach_in_component-requires-clause-fits
reach_in_component-requires-clause-fits c =
    subst (λ (envelopes : List Envelope). AreEnvelopes envelopes) (sym c.as_slice-envelopes.ensures)
    (component_in c.in-Component.component.now (rw c.in-Component.is at c.requires.fits))

pub returns-in-Component-clause-met : goal.returns-in-Component-clause-met
returns-in-Component-clause-met c =
    let step = enforced c.args.header.now c.args.verdicts.now in
    let same : c.as_slice-envelopes.result.now ∷ [] ≡ clusters_in (stage_of c.args.stage) =
    ap (λ (txs : Cluster). txs ∷ []) c.as_slice-envelopes.ensures ∙ sym (ap (λ (s : SetStage). clusters_in (stage_of s)) c.in-Component.is) in
    IfOk-weaker c.reach_in_component.result _ _
    (λ o met reports. met reports
    ∙ ap (λ (cs : Stage). met_in_stage step (between c.args.ledger.now.entries reports) c.args.place.cluster c.args.place.transaction cs) same)
    c.reach_in_component.ensures.met

pub returns-in-Parallel-clause-met : goal.returns-in-Parallel-clause-met
returns-in-Parallel-clause-met c =
    let step = enforced c.args.header.now c.args.verdicts.now in
    let env = λ (k : SetCluster). let txs : Cluster = k.envelopes in txs in
    let same : map env c.as_slice-clusters.result.now ≡ clusters_in (stage_of c.args.stage) =
    ap (map env) c.as_slice-clusters.ensures ∙ sym (ap (λ (s : SetStage). clusters_in (stage_of s)) c.in-Parallel.is) in
    IfOk-weaker c.reach_in_clusters.result _ _
    (λ o met reports. met reports
    ∙ ap (λ (cs : Stage). met_in_stage step (between c.args.ledger.now.entries reports) c.args.place.cluster c.args.place.transaction cs) same)
    c.reach_in_clusters.ensures.met
