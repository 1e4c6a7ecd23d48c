-- Transaction sets (XDR file Stellar-ledger, `GeneralizedTransactionSet`, after CAP-0063): phases, which are components of
-- envelopes or stages of clusters of envelopes.
use Rattle.std.specs.Prelude.{◌≡◌, ◌<◌, ◌^◌, ℕ, ℤ, List, [], ◌∷◌, Option, Some, None}
use Rattle.std.proofs.Common.{refl, arith}
use Rattle.xdr_spec.specs.Format.{Format, via, pair, list, arm, optional, signed64, enumeration, find_kind, union}
use Rattle.xdr_spec.specs.Laws.{IsFormat}
use Rattle.xdr_spec.proofs.Lemmas.{arm_kind, arm_lawful, enumeration_lawful, find_kind-back, list_lawful, optional_lawful}
use Rattle.xdr_spec.proofs.Lemmas.{pair_lawful, signed64_lawful, union_lawful, via_lawful}
use Rattle.value_types.specs.Headed.{headed, headed_lawful}
use Rattle.value_types.specs.Hash.{hash_format, hash_lawful}
use Rattle.value_types.specs.declared.hash.Hash.{Hash}
use Rattle.tx_xdr.specs.Envelope.{envelope_format, envelope_lawful}
use Rattle.tx_xdr.specs.declared.envelope.Envelope.{Envelope}
use Rattle.tx_xdr.specs.declared.set.Component.{Component}
use Rattle.tx_xdr.specs.declared.set.Cluster.{Cluster}
use Rattle.tx_xdr.specs.declared.set.Stage.{Stage}
use Rattle.tx_xdr.specs.declared.set.PhaseType.{PhaseType}
use Rattle.tx_xdr.specs.declared.set.PhaseType.TheVariants as types
use Rattle.tx_xdr.specs.declared.set.Phase.{Phase}
use Rattle.tx_xdr.specs.declared.set.Phase.TheVariants as phases
use Rattle.tx_xdr.specs.declared.set.TxSet.{TxSet}

-- ---- components: the number 0, an optional base fee, and envelopes

abbrev pub component_of : Option ℤ × List Envelope → Component
component_of f = record { base_fee = f.0; envelopes = f.1 }

abbrev pub component_fields : Component → Option ℤ × List Envelope
component_fields component = (component.base_fee, component.envelopes)

unfoldable pub component_format : Format Component
component_format = headed 0 (via component_of component_fields (pair (optional signed64) (list 4294967295 envelope_format)))

pub component_lawful : IsFormat component_format
unfolding component_format
component_lawful = headed_lawful 0 _ (omega arith) (via_lawful component_of component_fields _ (λ f. refl) (λ component. refl)
    (pair_lawful _ _ (optional_lawful _ signed64_lawful) (list_lawful 4294967295 _ envelope_lawful)))

-- ---- clusters: envelopes

abbrev pub cluster_of : List Envelope → Cluster
cluster_of envelopes = record { envelopes = envelopes }

abbrev pub envelopes_of : Cluster → List Envelope
envelopes_of cluster = cluster.envelopes

unfoldable pub cluster_format : Format Cluster
cluster_format = via cluster_of envelopes_of (list 4294967295 envelope_format)

pub cluster_lawful : IsFormat cluster_format
unfolding cluster_format
cluster_lawful =
    via_lawful cluster_of envelopes_of _ (λ envelopes. refl) (λ cluster. refl) (list_lawful 4294967295 _ envelope_lawful)

-- ---- stages: clusters

abbrev pub stage_of : List Cluster → Stage
stage_of clusters = record { clusters = clusters }

abbrev pub clusters_of : Stage → List Cluster
clusters_of stage = stage.clusters

unfoldable pub stage_format : Format Stage
stage_format = via stage_of clusters_of (list 4294967295 cluster_format)

pub stage_lawful : IsFormat stage_format
unfolding stage_format
stage_lawful = via_lawful stage_of clusters_of _ (λ clusters. refl) (λ stage. refl) (list_lawful 4294967295 _ cluster_lawful)

-- ---- phases: 0 and components, or 1, an optional base fee and stages

abbrev pub phase_number : PhaseType → ℕ
phase_number types.Components = 0
phase_number types.Parallel = 1

abbrev pub phase_types : List PhaseType
phase_types = types.Components ∷ types.Parallel ∷ []

abbrev pub phase_type_of : ℕ → Option PhaseType
phase_type_of = find_kind phase_number phase_types

unfoldable pub phase_type_format : Format PhaseType
phase_type_format = enumeration phase_number phase_type_of

abbrev pub phase_type : Phase → PhaseType
phase_type (phases.Components components) = types.Components
phase_type (phases.Parallel base_fee stages) = types.Parallel

abbrev pub components_phase : List Component → Phase
components_phase components = phases.Components components

abbrev pub as_components : Phase → Option (List Component)
as_components (phases.Components components) = Some components
as_components _ = None

abbrev pub parallel_phase : Option ℤ × List Stage → Phase
parallel_phase f = phases.Parallel f.0 f.1

abbrev pub as_parallel : Phase → Option (Option ℤ × List Stage)
as_parallel (phases.Parallel base_fee stages) = Some (base_fee, stages)
as_parallel _ = None

abbrev pub phase_arms : PhaseType → Format Phase
phase_arms types.Components = arm components_phase as_components (list 4294967295 component_format)
phase_arms types.Parallel = arm parallel_phase as_parallel (pair (optional signed64) (list 4294967295 stage_format))

unfoldable pub phase_format : Format Phase
phase_format = union phase_number phase_type_of phase_type phase_arms

small : (k : PhaseType) → phase_number k < 2 ^ 32
small types.Components = omega arith
small types.Parallel = omega arith

there : (k : PhaseType) → phase_type_of (phase_number k) ≡ Some k
there types.Components = refl
there types.Parallel = refl

pub phase_type_lawful : IsFormat phase_type_format
unfolding phase_type_format
phase_type_lawful =
    enumeration_lawful phase_number phase_type_of types.Parallel small there (find_kind-back phase_number phase_types)

back_components : (v : Phase) (x : List Component) → as_components v ≡ Some x → components_phase x ≡ v
back_components (phases.Components components) x e = cc
back_components _ x e = absurd cc

back_parallel : (v : Phase) (x : Option ℤ × List Stage) → as_parallel v ≡ Some x → parallel_phase x ≡ v
back_parallel (phases.Parallel base_fee stages) x e = cc
back_parallel _ x e = absurd cc

arms_lawful : (k : PhaseType) → IsFormat (phase_arms k)
arms_lawful types.Components =
    arm_lawful components_phase as_components _ (λ x. refl) back_components (list_lawful 4294967295 _ component_lawful)
arms_lawful types.Parallel = arm_lawful parallel_phase as_parallel _ (λ x. refl) back_parallel
    (pair_lawful _ _ (optional_lawful _ signed64_lawful) (list_lawful 4294967295 _ stage_lawful))

coherent : (k : PhaseType) (v : Phase) → (phase_arms k).fits v → phase_type v ≡ k
coherent types.Components v h =
    arm_kind phase_type types.Components components_phase as_components (list 4294967295 component_format)
    (λ x. refl) back_components v h
coherent types.Parallel v h =
    arm_kind phase_type types.Parallel parallel_phase as_parallel (pair (optional signed64) (list 4294967295 stage_format))
    (λ x. refl) back_parallel v h

pub phase_lawful : IsFormat phase_format
unfolding phase_format
phase_lawful = union_lawful phase_number phase_type_of phase_type phase_arms (record {
  some = types.Parallel;
  small = small;
  there = there;
  back = find_kind-back phase_number phase_types;
  bodies = arms_lawful;
  coherent = coherent;
})

-- ---- sets: version 1, the hash of the ledger before, and phases

abbrev pub set_of : Hash × List Phase → TxSet
set_of f = record { previous_ledger_hash = f.0; phases = f.1 }

abbrev pub set_fields : TxSet → Hash × List Phase
set_fields set = (set.previous_ledger_hash, set.phases)

unfoldable pub set_format : Format TxSet
set_format = headed 1 (via set_of set_fields (pair hash_format (list 4294967295 phase_format)))

pub set_lawful : IsFormat set_format
unfolding set_format
set_lawful = headed_lawful 1 _ (omega arith) (via_lawful set_of set_fields _ (λ f. refl) (λ set. refl)
    (pair_lawful _ _ hash_lawful (list_lawful 4294967295 _ phase_lawful)))
