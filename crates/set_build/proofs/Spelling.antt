-- Envelopes that fit their format declare keys that fit theirs, and the set that is built from them fits its format.
use Rattle.std.specs.List.{AllByRecursion}
use Rattle.std.proofs.Common.{◌≡◌, ℕ, zero, suc, ◌+◌, ◌<◌, ◌≤◌, All, List, [], ◌∷◌, ◌++◌, length, map, get_or, set, refl, ap, arith}
use Rattle.std.proofs.lemmas.List.{length-map, length-set, length_push}
use Rattle.std.proofs.lemmas.List.Sums.{sum_by_push}
use Rattle.std.proofs.lemmas.List.Elements.{All-from_recursion, recursion_from_All, All-nil, All-push, All-set, All-get_or, All-from_get_or}
use Rattle.xdr_spec.specs.Format.{list, optional, zeros}
use Rattle.value_types.specs.Hash.{hash_format, hash_of}
use Rattle.tx_xdr.specs.Envelope.{envelope_format, envelopes_format, transaction_in}
use Rattle.tx_xdr.specs.Set.{cluster_format, stage_format, phase_format, set_format}
use Rattle.tx_xdr.proofs.Lemmas.{transaction_in_fits}
use Rattle.stage_runs.specs.Transactions.{Envelope}
use Rattle.stage_runs.proofs.Lemmas.{declared_spelled}
use Rattle.stage_runs.specs.Runs.{Cluster, Stage}
use Rattle.stage_plan.specs.Spelled.{DeclaresSpelled}
use Rattle.set_build.specs.Built.{Building, put, placed, start, building, ended, place_in, built_stages, stage_with, built_set}
use Rattle.set_build.specs.Placed.{cluster_count}
use Rattle.set_build.specs.declared.place.Place.{Place}
use Rattle.set_build.specs.declared.place.Place.TheVariants.{NewStage, NewCluster, InCluster}
use Rattle.set_build.proofs.Places.{IsRight, place_right}
use Rattle.set_build.proofs.Growing.{IsGood}
use Rattle.set_build.proofs.Building.{IsBuilt, built_start, built_put, grow_fold}

-- ---- the declared keys

envelope_keys : (envelope : Envelope) → envelope_format.fits envelope → DeclaresSpelled envelope
envelope_keys envelope h =
    let both = declared_spelled (transaction_in envelope) (transaction_in_fits envelope h) in
    record { read_only = both.0; read_write = both.1 }

each_fits : (envelopes : List Envelope) → envelopes_format.fits envelopes → AllByRecursion envelope_format.fits envelopes
unfolding list
each_fits envelopes h = h.2

pub few_enough : (envelopes : List Envelope) → envelopes_format.fits envelopes → length envelopes ≤ 4294967295
unfolding list
few_enough envelopes h = h.0

declared_by_each : (envelopes : List Envelope) → AllByRecursion envelope_format.fits envelopes → AllByRecursion DeclaresSpelled envelopes
declared_by_each [] h = tt
declared_by_each (tx ∷ envelopes) h = (envelope_keys tx h.0, declared_by_each envelopes h.1)

pub declare_spelled : (envelopes : List Envelope) → envelopes_format.fits envelopes → All DeclaresSpelled envelopes
declare_spelled envelopes h = All-from_recursion DeclaresSpelled envelopes (declared_by_each envelopes (each_fits envelopes h))

-- ---- the set

abbrev FitsAll : Cluster → Type 0
FitsAll cluster = All envelope_format.fits cluster

cluster_fits : (cluster : Cluster) → length cluster ≤ 4294967295 → FitsAll cluster → cluster_format.fits (record { envelopes = cluster })
unfolding cluster_format list
cluster_fits cluster le h = (le, omega arith, recursion_from_All envelope_format.fits cluster h)

clusters_fit : (stage : Stage) → All (λ c. length c ≤ 4294967295) stage → All FitsAll stage → AllByRecursion cluster_format.fits (stage_with stage).clusters
clusters_fit stage le h = each stage (recursion_from_All (λ c. length c ≤ 4294967295) stage le) (recursion_from_All FitsAll stage h)
  where
    each : (cs : Stage) → AllByRecursion (λ c. length c ≤ 4294967295) cs → AllByRecursion FitsAll cs → AllByRecursion cluster_format.fits (stage_with cs).clusters
    each [] a b = tt
    each (c ∷ cs) a b = (cluster_fits c a.0 b.0, each cs a.1 b.1)

stage_fits : (stage : Stage) → length stage ≤ 1024 → All (λ c. length c ≤ 4294967295) stage → All FitsAll stage → stage_format.fits (stage_with stage)
unfolding stage_format list
stage_fits stage few le h =
    let count : length (stage_with stage).clusters ≡ length stage = count_of stage in
    (omega arith, omega arith, clusters_fit stage le h)
  where
    count_of : (cs : Stage) → length (stage_with cs).clusters ≡ length cs
    count_of [] = refl
    count_of (c ∷ cs) = ap suc (count_of cs)

abbrev StageFits : Stage → Type 0
StageFits stage = stage_format.fits (stage_with stage)

-- What holds after each envelope, if it fits and there are not too many.
record Fit (max : ℕ) (xs : List Envelope) (b : Building) : Type 0 where
  pub built : IsBuilt max xs b
  pub earlier : All StageFits b.earlier
  pub last : All FitsAll b.last
  pub few : length (ended b.earlier b.last) ≤ length xs
  pub counted : cluster_count b.earlier + length b.last ≤ length xs

count_push : (stages : List Stage) (stage : Stage) → cluster_count (stages ++ stage ∷ []) ≡ cluster_count stages + length stage
count_push stages stage = sum_by_push length stages stage

count_ended : (earlier : List Stage) (last : Stage) → cluster_count (ended earlier last) ≡ cluster_count earlier + length last
count_ended earlier [] = omega arith
count_ended earlier (c ∷ last) = count_push earlier (c ∷ last)

at_least : (earlier : List Stage) (last : Stage) → length earlier ≤ length (ended earlier last)
at_least earlier [] = omega arith
at_least earlier (c ∷ last) = let e = length_push earlier (c ∷ last) in omega (arith, e)

at_most : (earlier : List Stage) (last : Stage) → length (ended earlier last) ≤ length earlier + 1
at_most earlier [] = omega arith
at_most earlier (c ∷ last) = let e = length_push earlier (c ∷ last) in omega (arith, e)

one_for_last : (earlier : List Stage) (last : Stage) → 0 < length last → length (ended earlier last) ≡ length earlier + 1
one_for_last earlier [] some = absurd (omega arith)
one_for_last earlier (c ∷ last) some = length_push earlier (c ∷ last)

small_clusters : (max n : ℕ) (stage : Stage) → IsGood max n stage → n ≤ 4294967295 → All (λ c. length c ≤ 4294967295) stage
small_clusters max n stage h le = All-from_get_or (λ c. length c ≤ 4294967295) stage [] (λ i lt. let small = h.small i in omega (arith, small, le))

module _ (max : ℕ) (some : 0 < max) (few : max ≤ 1024) where
  good_fits : (n : ℕ) (stage : Stage) → IsGood max n stage → n ≤ 4294967295 → All FitsAll stage → StageFits stage
  good_fits n stage h le each = stage_fits stage (let count = h.few in omega (arith, count, few)) (small_clusters max n stage h le) each

  one : (tx : Envelope) → envelope_format.fits tx → FitsAll (tx ∷ [])
  one tx h = All-from_recursion envelope_format.fits (tx ∷ []) (h, tt)

  module _ (xs : List Envelope) (tx : Envelope) (b : Building) (fits : envelope_format.fits tx) (le : length (xs ++ tx ∷ []) ≤ 4294967295) (h : Fit max xs b) where
    one_longer : length (xs ++ tx ∷ []) ≡ length xs + 1
    one_longer = length_push xs tx

    fit_put : (place : Place) → IsRight max b.last tx place → Fit max (xs ++ tx ∷ []) (put b place tx)
    fit_put NewStage right = record {
      built = built_put max some xs tx b h.built NewStage right;
      earlier = All-push StageFits b.earlier b.last h.earlier (good_fits (length xs) b.last h.built.last (omega (arith, one_longer, le)) h.last);
      last = All-from_recursion FitsAll ((tx ∷ []) ∷ []) (one tx fits, tt);
      few =
          let e = one_for_last b.earlier b.last right in
          let n = h.few in
          let k = length_push b.earlier b.last in
          let m = at_most (b.earlier ++ b.last ∷ []) ((tx ∷ []) ∷ []) in
          omega (arith, e, n, k, m, one_longer);
      counted = let e = count_push b.earlier b.last in let n = h.counted in omega (arith, e, n, one_longer);
    }
    fit_put NewCluster right = record {
      built = built_put max some xs tx b h.built NewCluster right;
      earlier = h.earlier;
      last = All-push FitsAll b.last (tx ∷ []) h.last (one tx fits);
      few =
          let n = h.few in
          let k = at_least b.earlier b.last in
          let m = at_most b.earlier (b.last ++ (tx ∷ []) ∷ []) in
          omega (arith, n, k, m, one_longer);
      counted = let e = length_push b.last (tx ∷ []) in let n = h.counted in omega (arith, e, n, one_longer);
    }
    fit_put (InCluster i) right = record {
      built = built_put max some xs tx b h.built (InCluster i) right;
      earlier = h.earlier;
      last =
          All-set FitsAll b.last i (get_or b.last i [] ++ tx ∷ [])
          (All-push envelope_format.fits (get_or b.last i []) tx (All-get_or FitsAll b.last i [] right.0 h.last) fits) h.last;
      few =
          let n = h.few in
          let k = at_least b.earlier b.last in
          let m = at_most b.earlier (set b.last i (get_or b.last i [] ++ tx ∷ [])) in
          omega (arith, n, k, m, one_longer);
      counted = let e = length-set b.last i (get_or b.last i [] ++ tx ∷ []) in let n = h.counted in omega (arith, e, n, one_longer);
    }

  -- the same for a list that fits
  abbrev FitIf : List Envelope → Building → Type 0
  FitIf xs b = All envelope_format.fits xs → length xs ≤ 4294967295 → Fit max xs b

  fit_more : (xs : List Envelope) (tx : Envelope) (b : Building) → FitIf xs b → FitIf (xs ++ tx ∷ []) (placed max b tx)
  fit_more xs tx b h each le =
      let count : length (xs ++ tx ∷ []) ≡ length xs + 1 = length_push xs tx in
      fit_put xs tx b (last_of xs tx each) le (h (all_before xs tx each) (omega (arith, count, le))) (place_in max b.last tx) (place_right max b.last tx some)
    where
      last_of : (ys : List Envelope) (y : Envelope) → All envelope_format.fits (ys ++ y ∷ []) → envelope_format.fits y
      last_of ys y all = from ys (recursion_from_All envelope_format.fits (ys ++ y ∷ []) all)
        where
          from : (zs : List Envelope) → AllByRecursion envelope_format.fits (zs ++ y ∷ []) → envelope_format.fits y
          from [] a = a.0
          from (z ∷ zs) a = from zs a.1

      all_before : (ys : List Envelope) (y : Envelope) → All envelope_format.fits (ys ++ y ∷ []) → All envelope_format.fits ys
      all_before ys y all = All-from_recursion envelope_format.fits ys (from ys (recursion_from_All envelope_format.fits (ys ++ y ∷ []) all))
        where
          from : (zs : List Envelope) → AllByRecursion envelope_format.fits (zs ++ y ∷ []) → AllByRecursion envelope_format.fits zs
          from [] a = tt
          from (z ∷ zs) a = (a.0, from zs a.1)

  fit_start : FitIf [] start
  fit_start each le = record { built = built_start max; earlier = All-nil StageFits; last = All-nil FitsAll; few = omega arith; counted = omega arith }

  fit_all : (envelopes : List Envelope) → envelopes_format.fits envelopes → Fit max envelopes (building max envelopes)
  fit_all envelopes h =
      grow_fold (placed max) FitIf (λ xs x b k. fit_more xs x b k) [] envelopes start fit_start
      (All-from_recursion envelope_format.fits envelopes (each_fits envelopes h)) (few_enough envelopes h)

  pub built_few : (envelopes : List Envelope) → envelopes_format.fits envelopes → cluster_count (built_stages max envelopes) ≤ length envelopes
  built_few envelopes h =
      let b : Building = building max envelopes in
      let e = count_ended b.earlier b.last in
      let n = (fit_all envelopes h).counted in
      omega (arith, e, n)

  ended_fit : (n : ℕ) (earlier : List Stage) (last : Stage) → All StageFits earlier → IsGood max n last → n ≤ 4294967295 → All FitsAll last → All StageFits (ended earlier last)
  ended_fit n earlier [] h good le each = h
  ended_fit n earlier (c ∷ last) h good le each = All-push StageFits earlier (c ∷ last) h (good_fits n (c ∷ last) good le each)

  stages_fit : (ss : List Stage) → AllByRecursion StageFits ss → AllByRecursion stage_format.fits (map stage_with ss)
  stages_fit [] h = tt
  stages_fit (s ∷ ss) h = (h.0, stages_fit ss h.1)

  zero_hash_fits : hash_format.fits (hash_of (zeros 32))
  unfolding hash_format
  zero_hash_fits = (refl, bytes_from)
    where
      bytes_from : (i : ℕ) → get_or (zeros 32) i 0 < 256
      bytes_from i = zeros_below 32 i
        where
          zeros_below : (n k : ℕ) → get_or (zeros n) k 0 < 256
          zeros_below zero k = omega arith
          zeros_below (suc n) zero = omega arith
          zeros_below (suc n) (suc k) = zeros_below n k

  pub built_fits : (envelopes : List Envelope) → envelopes_format.fits envelopes → set_format.fits (built_set max envelopes)
  unfolding set_format phase_format list optional
  built_fits envelopes h =
      let fit = fit_all envelopes h in
      let b : Building = building max envelopes in
      let le : length envelopes ≤ 4294967295 = few_enough envelopes h in
      let count : length (map stage_with (built_stages max envelopes)) ≡ length (built_stages max envelopes) = length-map (built_stages max envelopes) stage_with in
      let n = fit.few in
      let each = ended_fit (length envelopes) b.earlier b.last fit.earlier fit.built.last le fit.last in (
        zero_hash_fits,
        (
          omega arith,
          omega arith,
          ((tt, (omega (arith, count, n, le), omega (arith, count, n, le), stages_fit (built_stages max envelopes) (recursion_from_All StageFits (built_stages max envelopes) each))), tt),
        ),
      )
