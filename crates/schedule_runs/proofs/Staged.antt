-- A stage by its order, from what its clusters leave.
use Rattle.std.specs.List.{flat_map}
use Rattle.std.proofs.Common.{◌≡◌, List, [], ◌∷◌, ◌++◌, map, refl, sym, ap, ap₂, ◌∙◌}
use Rattle.std.proofs.lemmas.List.{map-append}
use Rattle.tx_xdr.specs.declared.set.Cluster.{Cluster}
use Rattle.set_steps.proofs.Lemmas.{flat_map_one_more}
use Rattle.set_steps.specs.State.{pending_of, reports_of}
use Rattle.set_steps.specs.declared.running.ClusterDone.{ClusterDone}
use Rattle.stage_runs.specs.Orders.{lane_of}
use Rattle.schedule_runs.specs.Lanes.{lane_in}
use Rattle.schedule_runs.specs.declared.lane.Lane.{Lane}

-- the lanes of clusters as the code has them
pub map_lanes : (clusters : List Cluster) → map (λ c. lane_of c.envelopes) clusters ≡ map lane_of (map (λ c. c.envelopes) clusters)
map_lanes [] = refl
map_lanes (c ∷ clusters) = ap (λ ls. lane_of c.envelopes ∷ ls) (map_lanes clusters)

-- what one more lane leaves
pub pending_next : (done : List ClusterDone) (lanes : List Lane) (one : ClusterDone) (lane : Lane) → pending_of done ≡ flat_map (λ l. l.pending) (map lane_in lanes) → one.pending.items ≡ lane.running.pending
    → pending_of (done ++ one ∷ []) ≡ flat_map (λ l. l.pending) (map lane_in (lanes ++ lane ∷ []))
pending_next done lanes one lane before is =
    flat_map_one_more (λ d. d.pending.items) done one ∙ ap₂ (λ a b. a ++ b) before is
    ∙ sym (ap (flat_map (λ l. l.pending)) (map-append lane_in lanes (lane ∷ [])) ∙ flat_map_one_more (λ l. l.pending) (map lane_in lanes) (lane_in lane))

pub reports_next : (done : List ClusterDone) (lanes : List Lane) (one : ClusterDone) (lane : Lane) → reports_of done ≡ flat_map (λ l. l.results) (map lane_in lanes) → one.reports ≡ lane.running.reports
    → reports_of (done ++ one ∷ []) ≡ flat_map (λ l. l.results) (map lane_in (lanes ++ lane ∷ []))
reports_next done lanes one lane before is =
    flat_map_one_more (λ d. d.reports) done one ∙ ap₂ (λ a b. a ++ b) before is
    ∙ sym (ap (flat_map (λ l. l.results)) (map-append lane_in lanes (lane ∷ [])) ∙ flat_map_one_more (λ l. l.results) (map lane_in lanes) (lane_in lane))
