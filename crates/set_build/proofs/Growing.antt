-- The last stage after a transaction goes to its place.
use Rattle.std.specs.Prelude.{◌&&◌}
use Rattle.std.proofs.Common.{◌≡◌, ◌⊎◌, inl, inr, ℕ, zero, suc, ◌+◌, ◌<◌, ◌≤◌, Bool, true, false, ◌||◌, [], ◌∷◌, ◌++◌, length, get_or, refl, sym, ap, subst, ◌∙◌, arith}
use Rattle.std.proofs.lemmas.Bool.{cases_eq, cases_order}
use Rattle.std.proofs.lemmas.List.{length-set, length_push, get_or-set_same, get_or-set_other, get_or_past}
use Rattle.std.proofs.lemmas.List.Elements.{recursion_from_All, All-from_get_or}
use Rattle.std.proofs.lemmas.Option.{get_or_from_slice_get}
use Rattle.stage_runs.specs.Maps.{Bytes}
use Rattle.stage_runs.specs.Transactions.{Envelope, writes, declares}
use Rattle.stage_runs.specs.Runs.{Cluster, Stage, writes_in, declares_in, HasNoConflict}
use Rattle.stage_runs.specs.Conflicts.{IsConflict}
use Rattle.stage_runs.proofs.Lemmas.{both_false, both_first, both_second, cases, free_from, never, one_true}
use Rattle.set_build.specs.Built.{meets, joined}
use Rattle.set_build.specs.Placed.{IsSound}
use Rattle.set_build.specs.Known.{cluster_at, last_after}
use Rattle.set_build.specs.declared.place.Place.{Place}
use Rattle.set_build.specs.declared.place.Place.TheVariants.{NewStage, NewCluster, InCluster}
use Rattle.set_build.proofs.Tests.{or_left, or_end}
use Rattle.set_build.proofs.Meets.{unmet_written, unmet_declared, meets_nothing}
use Rattle.set_build.proofs.Declaring.{Grows, declares_here, declares_other, writes_here, writes_other}
use Rattle.set_build.proofs.Meeting.{Apart}
use Rattle.set_build.proofs.Places.{IsRight}

-- ---- which cluster grows

pub grows_first : (tx : Envelope) → Grows [] 0 tx ((tx ∷ []) ∷ [])
grows_first tx = record { here = refl; others = others }
  where
    others : (j : ℕ) → (j ≡ 0 → ⊥) → cluster_at ((tx ∷ []) ∷ []) j ≡ []
    others zero other = absurd (other refl)
    others (suc j) other = refl

pub grows_end : (stage : Stage) (tx : Envelope) → Grows stage (length stage) tx (stage ++ (tx ∷ []) ∷ [])
grows_end stage tx = record {
  here = or_end stage (tx ∷ []) [] ∙ ap (λ (c : Cluster). c ++ tx ∷ []) (sym (get_or_past stage (length stage) [] (omega arith)));
  others = λ j other. or_left stage (tx ∷ []) [] j other;
}

pub grows_in : (stage : Stage) (i : ℕ) (tx : Envelope) → i < length stage → Grows stage i tx (joined stage i tx)
grows_in stage i tx lt = record {
  here = get_or-set_same stage i (get_or stage i [] ++ tx ∷ []) [] lt;
  others = λ j other. get_or-set_other stage i j (get_or stage i [] ++ tx ∷ []) [] other;
}

-- ---- no conflict

module _ (stage next : Stage) (i : ℕ) (tx : Envelope) (grows : Grows stage i tx next) (unmet : (j : ℕ) → (j ≡ i → ⊥) → meets (cluster_at stage j) tx ≡ false)
    (apart : Apart stage) where
  abbrev D : ℕ → Bytes → Bool
  D j q = declares_in (cluster_at stage j) q

  abbrev W : ℕ → Bytes → Bool
  W j q = writes_in (cluster_at stage j) q

  from_it : (j : ℕ) → (j ≡ i → ⊥) → (q : Bytes) → (W i q || writes tx q) ≡ true → D j q ≡ false
  from_it j other q h =
      one_true (W i q) (writes tx q) h
      (λ w. apart i j (λ e. other (sym e)) q w)
      (λ w. unmet_written (cluster_at stage j) tx q (unmet j other) w)

  to_it : (j : ℕ) → (j ≡ i → ⊥) → (q : Bytes) → W j q ≡ true → (D i q || declares tx q) ≡ false
  to_it j other q w =
      both_false (D i q) (declares tx q) (apart j i other q w)
      (cases (declares tx q) (λ d. never w (unmet_declared (cluster_at stage j) tx q (unmet j other) d)) (λ d. d))

  pub apart_after : Apart next
  apart_after a b ne q w = at (cases_eq a i) (cases_eq b i)
    where
      at : (a ≡ i) ⊎ (a ≡ i → ⊥) → (b ≡ i) ⊎ (b ≡ i → ⊥) → declares_in (cluster_at next b) q ≡ false
      at (inl same) (inl even) = absurd (ne (same ∙ sym even))
      at (inl same) (inr other) =
          declares_other stage next i tx grows q b other
          ∙ from_it b other q (sym (writes_here stage next i tx grows q) ∙ ap (λ (n : ℕ). writes_in (cluster_at next n) q) (sym same) ∙ w)
      at (inr other) (inl same) =
          ap (λ (n : ℕ). declares_in (cluster_at next n) q) same ∙ declares_here stage next i tx grows q
          ∙ to_it a other q (sym (writes_other stage next i tx grows q a other) ∙ w)
      at (inr other) (inr distinct) =
          declares_other stage next i tx grows q b distinct
          ∙ apart a b ne q (sym (writes_other stage next i tx grows q a other) ∙ w)

pub free : (stage : Stage) → Apart stage → HasNoConflict stage
free stage apart = free_from stage none
  where
    none : (a b : ℕ) (q : Bytes) → ¬ (IsConflict stage a b q)
    none a b q h =
        let c : cluster_at stage a ≡ h.first = get_or_from_slice_get stage a h.first [] h.at_a in
        let d : cluster_at stage b ≡ h.second = get_or_from_slice_get stage b h.second [] h.at_b in
        let before : a < b = h.before in
        let ne : a ≡ b → ⊥ = λ e. absurd (omega (arith, before, e)) in
        one_true (writes_in h.first q && declares_in h.second q) (writes_in h.second q && declares_in h.first q) h.meet
        (λ w. never (both_second (writes_in h.first q) (declares_in h.second q) w)
        (ap (λ (x : Cluster). declares_in x q) (sym d)
        ∙ apart a b ne q (ap (λ (x : Cluster). writes_in x q) c ∙ both_first (writes_in h.first q) (declares_in h.second q) w)))
        (λ w. never (both_second (writes_in h.second q) (declares_in h.first q) w)
        (ap (λ (x : Cluster). declares_in x q) (sym c)
        ∙ apart b a (λ e. ne (sym e)) q (ap (λ (x : Cluster). writes_in x q) d ∙ both_first (writes_in h.second q) (declares_in h.first q) w)))

-- ---- what holds of the last stage

-- at most this many clusters, none of them empty, and no conflict; no cluster has more than n transactions
pub record IsGood (max n : ℕ) (stage : Stage) : Type 0 where
  pub few : length stage ≤ max
  pub full : (j : ℕ) → j < length stage → 0 < length (cluster_at stage j)
  pub small : (j : ℕ) → length (cluster_at stage j) ≤ n
  pub apart : Apart stage

pub good_first : (max : ℕ) → IsGood max 0 []
good_first max = record { few = omega arith; full = λ j lt. absurd (omega arith); small = λ j. omega arith; apart = λ i j ne q w. absurd cc }

-- a stage in which a cluster grows
grown : (max n : ℕ) (stage next : Stage) (i : ℕ) (tx : Envelope) → Grows stage i tx next → ((j : ℕ) → (j ≡ i → ⊥) → meets (cluster_at stage j) tx ≡ false)
    → length next ≤ max → ((j : ℕ) → (j ≡ i → ⊥) → j < length next → j < length stage) → IsGood max n stage → IsGood max (n + 1) next
grown max n stage next i tx grows unmet few only h = record {
  few = few;
  full = λ j lt. full j lt (cases_eq j i);
  small = λ j. small j (cases_eq j i);
  apart = apart_after stage next i tx grows unmet h.apart;
}
  where
    count : length (cluster_at next i) ≡ length (cluster_at stage i) + 1
    count = ap length grows.here ∙ length_push (cluster_at stage i) tx

    full : (j : ℕ) → j < length next → (j ≡ i) ⊎ (j ≡ i → ⊥) → 0 < length (cluster_at next j)
    full j lt (inl same) = subst (λ (k : ℕ). 0 < length (cluster_at next k)) (sym same) (omega (arith, count))
    full j lt (inr other) = subst (λ (c : Cluster). 0 < length c) (sym (grows.others j other)) (h.full j (only j other lt))

    small : (j : ℕ) → (j ≡ i) ⊎ (j ≡ i → ⊥) → length (cluster_at next j) ≤ n + 1
    small j (inl same) =
        let le = h.small i in subst (λ (k : ℕ). length (cluster_at next k) ≤ n + 1) (sym same) (omega (arith, count, le))
    small j (inr other) =
        let le = h.small j in subst (λ (c : Cluster). length c ≤ n + 1) (sym (grows.others j other)) (omega (arith, le))

not_first : (j : ℕ) → (j ≡ 0 → ⊥) → j < 1 → j < 0
not_first zero other lt = absurd (other refl)
not_first (suc j) other lt = absurd (omega arith)

pub good_after : (max n : ℕ) (stage : Stage) (tx : Envelope) (place : Place) → 0 < max → IsRight max stage tx place → IsGood max n stage → IsGood max (n + 1) (last_after stage place tx)
good_after max n stage tx NewStage some right h =
    let first : IsGood max n [] = record { few = omega arith; full = λ j lt. absurd (omega arith); small = λ j. omega arith; apart = λ i j ne q w. absurd cc } in
    grown max n [] ((tx ∷ []) ∷ []) 0 tx (grows_first tx) (λ j other. meets_nothing tx) (omega arith) (λ j other lt. not_first j other lt) first
good_after max n stage tx NewCluster some right h =
    let more : length (stage ++ (tx ∷ []) ∷ []) ≡ length stage + 1 = length_push stage (tx ∷ []) in
    let lt : length stage < max = right.0 in
    grown max n stage (stage ++ (tx ∷ []) ∷ []) (length stage) tx (grows_end stage tx) (λ j other. right.1 j) (omega (arith, more, lt))
    (λ j other less. below j other (omega (arith, more, less))) h
  where
    below : (j : ℕ) → (j ≡ length stage → ⊥) → j < length stage + 1 → j < length stage
    below j other lt = at (cases_order j (length stage))
      where
        at : (j ≡ length stage) ⊎ ((j < length stage) ⊎ (length stage < j)) → j < length stage
        at (inl same) = absurd (other same)
        at (inr (inl less)) = less
        at (inr (inr more)) = absurd (omega arith)
good_after max n stage tx (InCluster i) some right h =
    let same : length (joined stage i tx) ≡ length stage = length-set stage i (get_or stage i [] ++ tx ∷ []) in
    let few = h.few in
    grown max n stage (joined stage i tx) i tx (grows_in stage i tx right.0) right.1 (omega (arith, same, few)) (λ j other lt. omega (arith, same, lt)) h

pub sound : (max n : ℕ) (stage : Stage) → 0 < length stage → IsGood max n stage → IsSound max stage
sound max n stage some h = record {
  some = some;
  full = recursion_from_All (λ c. 0 < length c) stage (All-from_get_or (λ c. 0 < length c) stage [] h.full);
  few = h.few;
  free = free stage h.apart;
}
