-- The built set: its stages are sound, and have the transactions of the list.
use Rattle.std.specs.List.{fold, AllByRecursion}
use Rattle.std.specs.Prelude.{slice_get}
use Rattle.std.proofs.Common.{◌≡◌, ℕ, zero, suc, ◌<◌, List, [], ◌∷◌, ◌++◌, length, map, get_or, Some, append_assoc, refl, sym, ap, subst, ◌∙◌, arith}
use Rattle.std.proofs.lemmas.List.{append-nil, length_push}
use Rattle.tx_xdr.specs.declared.set.Stage as sets
use Rattle.tx_xdr.specs.declared.set.Cluster as clusters
use Rattle.tx_xdr.specs.declared.set.TxSet.{TxSet}
use Rattle.stage_runs.specs.Transactions.{Envelope}
use Rattle.stage_runs.specs.Runs.{Cluster, Stage, clusters_in, HasNoConflict}
use Rattle.stage_runs.proofs.Lemmas.{none_from}
use Rattle.set_build.specs.Built.{Building, put, placed, start, building, ended, place_in, built_stages, stage_with, built_set, set_with}
use Rattle.set_build.specs.Placed.{Spot, ArePlaced, IsSound, stages_in}
use Rattle.set_build.specs.Known.{last_after}
use Rattle.set_build.specs.Laws.{BuiltLaw, HasNone}
use Rattle.set_build.specs.declared.place.Place.{Place}
use Rattle.set_build.specs.declared.place.Place.TheVariants.{NewStage, NewCluster, InCluster}
use Rattle.set_build.proofs.Meets.{meets_nothing}
use Rattle.set_build.proofs.Places.{IsRight, place_right}
use Rattle.set_build.proofs.Growing.{IsGood, good_first, good_after, sound, grows_first, grows_end, grows_in}
use Rattle.set_build.proofs.Standing.{placed_same, at_empty, grown_placed, grown_spot}

-- ---- folds over a list that grows

pub grow_fold : {A B : Type 0} (f : B → A → B) (R : List A → B → Type 0) → ((xs : List A) (x : A) (b : B) → R xs b → R (xs ++ x ∷ []) (f b x)) → (done left : List A) (b : B) → R done b
    → R (done ++ left) (fold f b left)
grow_fold f R step done [] b h = subst (λ xs. R xs b) (sym (append-nil done)) h
grow_fold f R step done (x ∷ left) b h =
    subst (λ xs. R xs (fold f (f b x) left)) (append_assoc done (x ∷ []) left) (grow_fold f R step (done ++ x ∷ []) left (f b x) (step done x b h))

sound_more : (max : ℕ) (stages : List Stage) (stage : Stage) → AllByRecursion (IsSound max) stages → IsSound max stage → AllByRecursion (IsSound max) (stages ++ stage ∷ [])
sound_more max [] stage h s = (s, tt)
sound_more max (x ∷ stages) stage h s = (h.0, sound_more max stages stage h.1 s)

-- ---- what holds after each transaction

pub record IsBuilt (max : ℕ) (envelopes : List Envelope) (b : Building) : Type 0 where
  pub earlier : AllByRecursion (IsSound max) b.earlier
  pub last : IsGood max (length envelopes) b.last
  pub spots : List Spot
  pub placed : ArePlaced envelopes (b.earlier ++ b.last ∷ []) spots

no_spots : ArePlaced [] ([] ∷ []) []
no_spots = record {
  count = refl;
  there = λ k s at. absurd cc;
  once = λ k l s at_k at_l. absurd cc;
  all = λ s x at. absurd (nothing s x at);
  order = λ k l x y s t lt at_k at_l spot_k spot_l m. absurd cc;
}
  where
    nothing : (s : Spot) (x : Envelope) → slice_get (get_or (get_or ([] ∷ []) s.stage []) s.cluster []) s.index ≡ Some x → ⊥
    nothing s x at = none s.stage at
      where
        none : (n : ℕ) → slice_get (get_or (get_or ([] ∷ []) n []) s.cluster []) s.index ≡ Some x → ⊥
        none zero e = cc
        none (suc n) e = cc

pub built_start : (max : ℕ) → IsBuilt max [] start
built_start max = record { earlier = tt; last = good_first max; spots = []; placed = no_spots }

module _ (max : ℕ) (some : 0 < max) (envelopes : List Envelope) (tx : Envelope) (b : Building) (h : IsBuilt max envelopes b) where
  good : (place : Place) → IsRight max b.last tx place → IsGood max (length (envelopes ++ tx ∷ [])) (last_after b.last place tx)
  good place right =
      subst (λ (n : ℕ). IsGood max n (last_after b.last place tx)) (sym (length_push envelopes tx)) (good_after max (length envelopes) b.last tx place some right h.last)

  pub built_put : (place : Place) → IsRight max b.last tx place → IsBuilt max (envelopes ++ tx ∷ []) (put b place tx)
  built_put NewStage right = record {
    earlier = sound_more max b.earlier b.last h.earlier (sound max (length envelopes) b.last right h.last);
    last = good NewStage right;
    spots = h.spots ++ grown_spot (b.earlier ++ b.last ∷ []) [] ((tx ∷ []) ∷ []) 0 tx (grows_first tx) ∷ [];
    placed =
        grown_placed (b.earlier ++ b.last ∷ []) [] ((tx ∷ []) ∷ []) 0 tx (grows_first tx) envelopes h.spots (λ j other. meets_nothing tx)
        (placed_same envelopes (b.earlier ++ b.last ∷ []) ((b.earlier ++ b.last ∷ []) ++ [] ∷ []) h.spots (at_empty (b.earlier ++ b.last ∷ [])) h.placed);
  }
  built_put NewCluster right = record {
    earlier = h.earlier;
    last = good NewCluster right;
    spots = h.spots ++ grown_spot b.earlier b.last (b.last ++ (tx ∷ []) ∷ []) (length b.last) tx (grows_end b.last tx) ∷ [];
    placed =
        grown_placed b.earlier b.last (b.last ++ (tx ∷ []) ∷ []) (length b.last) tx (grows_end b.last tx) envelopes h.spots (λ j other. right.1 j) h.placed;
  }
  built_put (InCluster i) right = record {
    earlier = h.earlier;
    last = good (InCluster i) right;
    spots = h.spots ++ grown_spot b.earlier b.last (last_after b.last (InCluster i) tx) i tx (grows_in b.last i tx right.0) ∷ [];
    placed =
        grown_placed b.earlier b.last (last_after b.last (InCluster i) tx) i tx (grows_in b.last i tx right.0) envelopes h.spots right.1 h.placed;
  }

pub built_all : (max : ℕ) (envelopes : List Envelope) → 0 < max → IsBuilt max envelopes (building max envelopes)
built_all max envelopes some =
    grow_fold (placed max) (IsBuilt max) (λ xs x b h. built_put max some xs x b h (place_in max b.last x) (place_right max b.last x some)) [] envelopes start (built_start max)

-- ---- the end

ended_sound : (max n : ℕ) (earlier : List Stage) (last : Stage) → AllByRecursion (IsSound max) earlier → IsGood max n last → AllByRecursion (IsSound max) (ended earlier last)
ended_sound max n earlier [] h good = h
ended_sound max n earlier (c ∷ last) h good = sound_more max earlier (c ∷ last) h (sound max n (c ∷ last) (omega arith) good)

ended_placed : (envelopes : List Envelope) (earlier : List Stage) (last : Stage) (spots : List Spot) → ArePlaced envelopes (earlier ++ last ∷ []) spots
    → ArePlaced envelopes (ended earlier last) spots
ended_placed envelopes earlier [] spots h = placed_same envelopes (earlier ++ [] ∷ []) earlier spots (λ s. sym (at_empty earlier s)) h
ended_placed envelopes earlier (c ∷ last) spots h = h

pub built_law : BuiltLaw
built_law max envelopes some =
    let h = built_all max envelopes some in
    let b : Building = building max envelopes in (
      ended_sound max (length envelopes) b.earlier b.last h.earlier h.last,
      (h.spots, ended_placed envelopes b.earlier b.last h.spots h.placed),
    )

-- ---- the set

same_clusters : (clusters : List Cluster) → map (λ c. c.envelopes) (stage_with clusters).clusters ≡ clusters
same_clusters [] = refl
same_clusters (c ∷ clusters) = ap (λ (cs : List Cluster). c ∷ cs) (same_clusters clusters)

same_stages : (stages : List Stage) → map clusters_in (map stage_with stages) ≡ stages
same_stages [] = refl
same_stages (stage ∷ stages) =
    ap (λ (s : Stage). s ∷ map clusters_in (map stage_with stages)) (same_clusters stage) ∙ ap (λ (ss : List Stage). stage ∷ ss) (same_stages stages)

pub stages_of_built : (max : ℕ) (envelopes : List Envelope) → stages_in (built_set max envelopes) ≡ built_stages max envelopes
stages_of_built max envelopes =
    ap (map clusters_in) (append-nil (map stage_with (built_stages max envelopes))) ∙ same_stages (built_stages max envelopes)

same_set_clusters : (cs : List clusters.Cluster) → map (λ (envelopes : Cluster). let c : clusters.Cluster = record { envelopes = envelopes } in c) (map (λ c. c.envelopes) cs) ≡ cs
same_set_clusters [] = refl
same_set_clusters (c ∷ cs) = ap (λ (xs : List clusters.Cluster). c ∷ xs) (same_set_clusters cs)

same_set_stages : (ss : List sets.Stage) → map stage_with (map clusters_in ss) ≡ ss
same_set_stages [] = refl
same_set_stages (s ∷ ss) =
    ap (λ (cs : List clusters.Cluster). let t : sets.Stage = record { clusters = cs } in t ∷ map stage_with (map clusters_in ss)) (same_set_clusters s.clusters)
    ∙ ap (λ (xs : List sets.Stage). s ∷ xs) (same_set_stages ss)

-- a set with these stages
pub built_is : (max : ℕ) (envelopes : List Envelope) (ss : List sets.Stage) (set : TxSet) → set ≡ set_with ss → map clusters_in ss ≡ built_stages max envelopes
    → set ≡ built_set max envelopes
built_is max envelopes ss set e h = e ∙ ap set_with (sym (same_set_stages ss) ∙ ap (map stage_with) h)

sound_at : (max : ℕ) (stages : List Stage) → AllByRecursion (IsSound max) stages → (i : ℕ) (stage : Stage) → slice_get stages i ≡ Some stage → HasNoConflict stage
sound_at max [] h i stage at = absurd cc
sound_at max (x ∷ stages) h zero stage at = let same : x ≡ stage = cc in subst HasNoConflict same h.0.free
sound_at max (x ∷ stages) h (suc i) stage at = sound_at max stages h.1 i stage at

pub none_in : (max : ℕ) (stages : List Stage) → AllByRecursion (IsSound max) stages → HasNone stages
none_in max stages h = λ stage a b key found.
    let c = found.least.conflict in
    none_from found.clusters (sound_at max stages h stage found.clusters found.at) a b key c.first c.second c.before c.at_a c.at_b c.meet
