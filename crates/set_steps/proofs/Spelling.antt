-- What is known of sets that have a spelling.
use Rattle.std.specs.List.{AllByRecursion, flat_map}
use Rattle.std.proofs.Common.{◌≡◌, All, List, [], ◌∷◌, map, sym, subst, arith}
use Rattle.std.proofs.lemmas.List.Elements.{All-from_recursion}
use Rattle.xdr_spec.specs.Format.{list}
use Rattle.ledger_types.specs.Key.{key_format}
use Rattle.tx_xdr.specs.Envelope.{envelope_format, transaction_in}
use Rattle.tx_xdr.specs.Set.{component_format, cluster_format, stage_format, phase_format, set_format}
use Rattle.tx_xdr.specs.Stages.{component_stage, stages_in, stages_of}
use Rattle.tx_xdr.specs.declared.envelope.Envelope.{Envelope}
use Rattle.tx_xdr.specs.declared.set.Component.{Component}
use Rattle.tx_xdr.specs.declared.set.Cluster.{Cluster}
use Rattle.tx_xdr.specs.declared.set.Stage.{Stage}
use Rattle.tx_xdr.specs.declared.set.Phase.{Phase}
use Rattle.tx_xdr.specs.declared.set.Phase.TheVariants.{Components, Parallel}
use Rattle.tx_xdr.specs.declared.set.TxSet.{TxSet}
use Rattle.tx_xdr.proofs.Lemmas.{transaction_in_fits}
use Rattle.stage_runs.proofs.Lemmas.{declared_spelled}
use Rattle.stage_runs.specs.Transactions.{declared_by}
use Rattle.set_steps.specs.Spelled.{IsCluster, IsStage, IsComponent}
use Rattle.set_steps.specs.declared.stages.SetStage.{SetStage}
use Rattle.set_steps.specs.Stages.{stage_of, IsSpelled}
use Rattle.stage_plan.specs.Spelled as plan
use Rattle.set_steps.proofs.Lists.{recursion_append, all_also}

-- ---- an envelope

pub written_spelled : (envelope : Envelope) → envelope_format.fits envelope → All (λ key. key_format.fits key) (declared_by envelope).read_write
written_spelled envelope h = (declared_spelled (transaction_in envelope) (transaction_in_fits envelope h)).1

pub read_spelled : (envelope : Envelope) → envelope_format.fits envelope → All (λ key. key_format.fits key) (declared_by envelope).read_only
read_spelled envelope h = (declared_spelled (transaction_in envelope) (transaction_in_fits envelope h)).0

declares_spelled : (envelope : Envelope) → envelope_format.fits envelope → plan.DeclaresSpelled envelope
declares_spelled envelope h =
    let both = declared_spelled (transaction_in envelope) (transaction_in_fits envelope h) in
    record { read_only = both.0; read_write = both.1 }

cluster_declares : (cluster : Cluster) → IsCluster cluster → plan.IsCluster cluster.envelopes
cluster_declares cluster h = all_also (λ e. envelope_format.fits e) plan.DeclaresSpelled cluster.envelopes declares_spelled h

pub component_declares : (component : Component) → IsComponent component → plan.IsCluster component.envelopes
component_declares component h = all_also (λ e. envelope_format.fits e) plan.DeclaresSpelled component.envelopes declares_spelled h

pub stage_declares : (stage : Stage) → IsStage stage → plan.IsStage stage
stage_declares stage h = all_also IsCluster (λ c. plan.IsCluster c.envelopes) stage.clusters cluster_declares h

-- ---- a set

weaker : {A : Type 0} (P Q : A → Type 0) (xs : List A) → ((x : A) → P x → Q x) → AllByRecursion P xs → AllByRecursion Q xs
weaker P Q [] f h = tt
weaker P Q (x ∷ xs) f h = (f x h.0, weaker P Q xs f h.1)

all_weaker : {A : Type 0} (P Q : A → Type 0) (xs : List A) → ((x : A) → P x → Q x) → AllByRecursion P xs → All Q xs
all_weaker P Q xs f h = All-from_recursion Q xs (weaker P Q xs f h)

-- a component is a stage of one cluster
pub one_cluster : (component : Component) → IsComponent component → IsStage (component_stage component)
one_cluster component h = All-from_recursion IsCluster (component_stage component).clusters (h, tt)

component_spelled : (component : Component) → component_format.fits component → IsStage (component_stage component)
unfolding component_format list
component_spelled component h = one_cluster component (All-from_recursion envelope_format.fits component.envelopes h.1.2)

-- the only cluster of a component
pub component_in : (component : Component) → IsStage (component_stage component) → IsComponent component
component_in component h = let only : Cluster = record { envelopes = component.envelopes } in h 0 only (omega arith)

cluster_spelled : (cluster : Cluster) → cluster_format.fits cluster → IsCluster cluster
unfolding cluster_format list
cluster_spelled cluster h = All-from_recursion envelope_format.fits cluster.envelopes h.2

stage_spelled : (stage : Stage) → stage_format.fits stage → IsStage stage
unfolding stage_format list
stage_spelled stage h = all_weaker cluster_format.fits IsCluster stage.clusters cluster_spelled h.2

components_spelled : (components : List Component) → AllByRecursion component_format.fits components → AllByRecursion IsStage (map component_stage components)
components_spelled [] h = tt
components_spelled (component ∷ components) h = (component_spelled component h.0, components_spelled components h.1)

phase_spelled : (phase : Phase) → phase_format.fits phase → AllByRecursion IsStage (stages_in phase)
unfolding phase_format list
phase_spelled (Components components) h = components_spelled components h.2
phase_spelled (Parallel base_fee stages) h = weaker stage_format.fits IsStage stages stage_spelled h.1.2

phases_spelled : (phases : List Phase) → AllByRecursion phase_format.fits phases → AllByRecursion IsStage (flat_map stages_in phases)
phases_spelled [] h = tt
phases_spelled (phase ∷ phases) h = recursion_append IsStage (stages_in phase) (flat_map stages_in phases) (phase_spelled phase h.0) (phases_spelled phases h.1)

set_spelled : (set : TxSet) → set_format.fits set → AllByRecursion IsStage (stages_of set)
unfolding set_format list
set_spelled set h = phases_spelled set.phases h.1.2

unmapped : (stages : List SetStage) → AllByRecursion IsStage (map stage_of stages) → AllByRecursion IsSpelled stages
unmapped [] h = tt
unmapped (stage ∷ stages) h = (h.0, unmapped stages h.1)

-- the stages that are listed for a set
pub listed_spelled : (set : TxSet) (stages : List SetStage) → set_format.fits set → map stage_of stages ≡ stages_of set → All IsSpelled stages
listed_spelled set stages h e =
    All-from_recursion IsSpelled stages (unmapped stages (subst (λ (ss : List Stage). AllByRecursion IsStage ss) (sym e) (set_spelled set h)))
