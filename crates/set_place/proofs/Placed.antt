-- What is reported of the transaction at a place.
use Rattle.std.specs.List.{flat_map, slice_get}
use Rattle.std.proofs.Common.{◌≡◌, ℕ, suc, ◌+◌, ◌≤◌, List, [], length, get_or, take, drop, map, Option, Some, None, refl, ap, ◌∙◌, arith}
use Rattle.std.specs.Prelude.{option_map, option_and_then}
use Rattle.std.proofs.lemmas.List.{length-take-le}
use Rattle.std.proofs.lemmas.Option.{get_or_from_slice_get, none-some, option_and_then_some, same_Some, slice_get-map, slice_get_within}
use Rattle.stage_runs.specs.Transactions.{Envelope, Step}
use Rattle.stage_runs.specs.Runs.{Cluster, Stage, Reported, RunState, before, clusters_in, reported, start, run_transaction, run_all, run_cluster, run_next_cluster, run_clusters, run_stage, run_set}
use Rattle.tx_xdr.specs.Stages.{stages_of}
use Rattle.apply_spec.specs.Enforced.{enforced}
use Rattle.apply_spec.specs.Runs.{running_header}
use Rattle.set_place.specs.Laws.{AppliedLaw, OrderLaw, PlaceLaw, ReportedLaw}
use Rattle.set_place.specs.Places.{Met, count_before, txs_of}
use Rattle.set_place.proofs.Growing.{all_grow, at_end, clusters_grow, fold_by, grown_at, grown_length, in_flat, in_second, set_grows}

-- ---- options

then_mapped : {A B C : Type 0} (g : B → C) (f : A → Option B) (h : A → Option C) (o : Option A) → ((x : A) → option_map g (f x) ≡ h x)
    → option_map g (option_and_then f o) ≡ option_and_then h o
then_mapped g f h None same = refl
then_mapped g f h (Some x) same = same x

mapped_back : {A B : Type 0} (f : A → B) (g : B → A) (o : Option A) → ((x : A) → g (f x) ≡ x) → option_map g (option_map f o) ≡ o
mapped_back f g None same = refl
mapped_back f g (Some x) same = ap Some (same x)

option_map_some : {A B P : Type 0} (f : A → B) (o : Option A) (y : B) → option_map f o ≡ Some y → ((x : A) → o ≡ Some x → f x ≡ y → P) → P
option_map_some f None y e k = absurd (none-some y e)
option_map_some f (Some x) y e k = k x refl (same_Some (f x) y e)

-- ---- places

pub place_of : PlaceLaw
place_of step running stages place =
    then_mapped (λ (met : Met). met.tx) _ _ (slice_get stages place.stage)
    (λ clusters. then_mapped (λ (met : Met). met.tx) _ _ (slice_get clusters place.cluster)
    (λ cluster. mapped_back _ (λ (met : Met). met.tx) (slice_get cluster place.transaction) (λ tx. refl)))

-- the stage at a place is the one whose clusters are counted
counted : (stages : List Stage) (s : ℕ) (clusters : Stage) → slice_get stages s ≡ Some clusters → (k p : ℕ)
    → length (flat_map txs_of (take s stages)) + (length (txs_of (take k (get_or stages s []))) + p)
    ≡ length (flat_map txs_of (take s stages)) + (length (txs_of (take k clusters)) + p)
counted stages s clusters e k p =
    ap (λ (cs : Stage). length (flat_map txs_of (take s stages)) + (length (txs_of (take k cs)) + p)) (get_or_from_slice_get stages s clusters [] e)

pub in_order : OrderLaw
in_order stages place tx e =
    option_and_then_some _ (slice_get stages place.stage) tx e (λ clusters at_stage f.
    option_and_then_some _ (slice_get clusters place.cluster) tx f (λ cluster at_cluster at_tx.
    ap (slice_get (flat_map txs_of stages)) (counted stages place.stage clusters at_stage place.cluster place.transaction)
    ∙ in_flat txs_of stages place.stage (length (txs_of (take place.cluster clusters)) + place.transaction) clusters tx at_stage
    (in_flat (λ (c : Cluster). c) clusters place.cluster place.transaction cluster tx at_cluster at_tx)))

-- ---- reports

module _ (step : Step) where
  -- what a transaction of a cluster does, after those before it
  abbrev told : RunState → Cluster → ℕ → Envelope → Reported
  told r txs i tx = reported (step (before tx (run_all step r (take i txs))).entries tx)

  in_cluster : (r : RunState) (txs : Cluster) (i : ℕ) (tx : Envelope) → slice_get txs i ≡ Some tx
      → slice_get (run_all step r txs).results (length r.results + i) ≡ Some (told r txs i tx)
  in_cluster r txs i tx e =
      let mid = run_all step r (take i txs) in
      let after = run_transaction step mid tx in
      let rest = drop (suc i) txs in
      let le : i ≤ length txs = let lt = slice_get_within txs i tx e in omega (arith, lt) in
      let long : length mid.results ≡ length r.results + i =
      grown_length r.results mid.results (length (take i txs)) (all_grow step (take i txs) r) ∙ ap (λ n. length r.results + n) (length-take-le i txs le) in
      ap (λ (s : RunState). slice_get s.results (length r.results + i)) (fold_by (run_transaction step) r txs i tx e)
      ∙ grown_at after.results (run_all step after rest).results (length rest) (length r.results + i) (told r txs i tx)
      (all_grow step rest after) (at_end mid.results (told r txs i tx) (length r.results + i) long)

  in_stage : (r : RunState) (clusters : Stage) (k p : ℕ) (cluster : Cluster) (tx : Envelope) → slice_get clusters k ≡ Some cluster → slice_get cluster p ≡ Some tx
      → slice_get (run_clusters step r clusters).results (length r.results + (length (txs_of (take k clusters)) + p))
      ≡ Some (told (start (run_clusters step r (take k clusters)).entries) cluster p tx)
  in_stage r clusters k p cluster tx at_cluster at_tx =
      let mid = run_clusters step r (take k clusters) in
      let own = run_cluster step mid.entries cluster in
      let after = run_next_cluster step mid cluster in
      let rest = drop (suc k) clusters in
      let this = told (start mid.entries) cluster p tx in
      let index = length r.results + (length (txs_of (take k clusters)) + p) in
      let long = grown_length r.results mid.results (length (txs_of (take k clusters))) (clusters_grow step (take k clusters) r) in
      let there : index ≡ length mid.results + p = omega (arith, long) in
      let first : p ≡ 0 + p = omega arith in
      let told_here : slice_get after.results index ≡ Some this =
      ap (slice_get after.results) there ∙ in_second mid.results own.results p ∙ ap (slice_get own.results) first ∙ in_cluster (start mid.entries) cluster p tx at_tx in
      ap (λ (s : RunState). slice_get s.results index) (fold_by (run_next_cluster step) r clusters k cluster at_cluster)
      ∙ grown_at after.results (run_clusters step after rest).results (length (txs_of rest)) index this (clusters_grow step rest after) told_here

  in_set : (r : RunState) (stages : List Stage) (s k p : ℕ) (clusters : Stage) (cluster : Cluster) (tx : Envelope)
      → slice_get stages s ≡ Some clusters → slice_get clusters k ≡ Some cluster → slice_get cluster p ≡ Some tx
      → slice_get (run_set step r stages).results
      (length r.results + (length (flat_map txs_of (take s stages)) + (length (txs_of (take k clusters)) + p)))
      ≡ Some (told (start (run_clusters step (run_set step r (take s stages)) (take k clusters)).entries) cluster p tx)
  in_set r stages s k p clusters cluster tx at_stage at_cluster at_tx =
      let mid = run_set step r (take s stages) in
      let after = run_stage step mid clusters in
      let rest = drop (suc s) stages in
      let this = told (start (run_clusters step mid (take k clusters)).entries) cluster p tx in
      let own = length (txs_of (take k clusters)) + p in
      let index = length r.results + (length (flat_map txs_of (take s stages)) + own) in
      let long = grown_length r.results mid.results (length (flat_map txs_of (take s stages))) (set_grows step (take s stages) r) in
      let there : index ≡ length mid.results + own = omega (arith, long) in
      let told_here : slice_get after.results index ≡ Some this = ap (slice_get after.results) there ∙ in_stage mid clusters k p cluster tx at_cluster at_tx in
      ap (λ (t : RunState). slice_get t.results index) (fold_by (run_stage step) r stages s clusters at_stage)
      ∙ grown_at after.results (run_set step after rest).results (length (flat_map txs_of rest)) index this (set_grows step rest after) told_here

pub reported_at : ReportedLaw
reported_at step entries stages place met e =
    option_and_then_some _ (slice_get stages place.stage) met e (λ clusters at_stage f.
    option_and_then_some _ (slice_get clusters place.cluster) met f (λ cluster at_cluster g.
    option_map_some _ (slice_get cluster place.transaction) met g (λ tx at_tx is.
    let count = length (flat_map txs_of (take place.stage stages)) + (length (txs_of (take place.cluster clusters)) + place.transaction) in
    let first : count ≡ 0 + count = omega arith in
    ap (slice_get (run_set step (start entries) stages).results) (counted stages place.stage clusters at_stage place.cluster place.transaction ∙ first)
    ∙ in_set step (start entries) stages place.stage place.cluster place.transaction clusters cluster tx at_stage at_cluster at_tx
    ∙ ap (λ (m : Met). Some (reported (step m.entries m.tx))) is)))

pub applied_at : AppliedLaw
applied_at header verdicts entries set close_time place met e =
    let step = enforced (running_header header close_time) verdicts in
    let stages = map clusters_in (stages_of set) in
    slice_get-map (λ (r : Reported). r.result) (run_set step (start entries) stages).results (count_before stages place)
    ∙ ap (option_map (λ (r : Reported). r.result)) (reported_at step entries stages place met e)
