use Rattle.std.proofs.Common.{All, List, subst, sym}
use Rattle.tx_xdr.specs.declared.envelope.Envelope.{Envelope}
use Rattle.tx_xdr.specs.declared.set.Cluster.{Cluster}
use Rattle.stage_plan.specs.Spelled as plan
use Rattle.set_steps.specs.declared.stages.SetStage.{SetStage}
use Rattle.set_steps.specs.Stages.{IsSpelled}
use Rattle.set_steps.proofs.Spelling.{component_in, component_declares, stage_declares}
use Rattle.set_steps.proofs.parts.shared_codes.Goals as goal

pub cluster_codes-requires : goal.cluster_codes-requires
cluster_codes-requires c =
    let component = c.in-Component.component.now in
    subst (λ (txs : List Envelope). plan.IsCluster txs) (sym c.as_slice.ensures)
    (component_declares component (component_in component (subst (λ (s : SetStage). IsSpelled s) c.in-Component.is c.requires)))

pub stage_codes-requires : goal.stage_codes-requires
stage_codes-requires c =
    subst (λ (cs : List Cluster). All (λ k. plan.IsCluster k.envelopes) cs) (sym c.as_slice-in-Parallel.ensures)
    (stage_declares c.in-Parallel.stage.now (subst (λ (s : SetStage). IsSpelled s) c.in-Parallel.is c.requires))
