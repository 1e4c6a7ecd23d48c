-- What is known of the last stage, and the places of a list, as envelopes are placed.
use Rattle.std.specs.Prelude.{slice_get}
use Rattle.std.proofs.Common.{◌≡◌, ℕ, zero, suc, ◌+◌, ◌<◌, ◌≤◌, List, [], ◌∷◌, ◌++◌, length, map, get_or, set, take, Some, refl, sym, ap, ap₂, subst, ◌∙◌, arith}
use Rattle.std.proofs.lemmas.List.{length-map, length-take-le, length_push, map-append, map-set}
use Rattle.std.proofs.lemmas.Option.{slice_get_read, slice_get-get_or}
use Rattle.stage_runs.specs.Maps.{Bytes}
use Rattle.stage_runs.specs.Transactions.{Envelope}
use Rattle.stage_runs.specs.Runs.{Stage}
use Rattle.stage_plan.proofs.Lemmas.{fold_more, split_last}
use Rattle.set_build.specs.Built.{Building, put, placed, start, building, place_in}
use Rattle.set_build.specs.Known.{Who, who, Named, named_by, cluster_at, AreKnown, IsLast, IsRanked, IsThere, ArePlanned, begun, keys_after, counts_after, last_after, noted_by, met_by, place_by}
use Rattle.set_build.specs.declared.last_stage.LastStage.{LastStage}
use Rattle.set_build.specs.declared.place.Place.{Place}
use Rattle.set_build.specs.declared.place.Place.TheVariants.{NewStage, NewCluster, InCluster}
use Rattle.set_build.proofs.Tests.{get_left, get_end}
use Rattle.set_build.proofs.Declaring.{known_as, known_by}
use Rattle.set_build.proofs.Meeting.{met_is}
use Rattle.set_build.proofs.Places.{IsRight, place_right, same_place}
use Rattle.set_build.proofs.Growing.{IsGood, grows_end, grows_in}
use Rattle.set_build.proofs.Building.{built_all}

-- ---- one transaction

abbrev sizes_of : Stage → List ℕ
sizes_of stage = map length stage

size_at : (stage : Stage) (i : ℕ) → get_or (sizes_of stage) i 0 ≡ length (cluster_at stage i)
size_at [] i = refl
size_at (c ∷ stage) zero = refl
size_at (c ∷ stage) (suc i) = size_at stage i

keys_opened : (stage : Stage) (tx : Envelope) (keys : Who) → AreKnown stage keys → AreKnown (stage ++ (tx ∷ []) ∷ []) (noted_by (length (sizes_of stage)) (named_by tx) keys)
keys_opened stage tx keys h =
    subst (λ (n : ℕ). AreKnown (stage ++ (tx ∷ []) ∷ []) (noted_by n (named_by tx) keys)) (sym (length-map stage length))
    (known_by stage (stage ++ (tx ∷ []) ∷ []) (length stage) tx keys (grows_end stage tx) h)

keys_known : (stage : Stage) (place : Place) (tx : Envelope) (max : ℕ) (keys : Who) → IsRight max stage tx place → AreKnown (begun stage place) keys
    → AreKnown (last_after stage place tx) (keys_after keys (sizes_of (begun stage place)) place (named_by tx))
keys_known stage NewStage tx max keys right h = keys_opened [] tx keys h
keys_known stage NewCluster tx max keys right h = keys_opened stage tx keys h
keys_known stage (InCluster i) tx max keys right h = known_by stage (last_after stage (InCluster i) tx) i tx keys (grows_in stage i tx right.0) h

counts_known : (stage : Stage) (place : Place) (tx : Envelope) → counts_after (sizes_of (begun stage place)) place ≡ sizes_of (last_after stage place tx)
counts_known stage NewStage tx = refl
counts_known stage NewCluster tx = sym (map-append length stage ((tx ∷ []) ∷ []))
counts_known stage (InCluster i) tx =
    ap (set (sizes_of stage) i) (ap (λ (n : ℕ). n + 1) (size_at stage i) ∙ sym (length_push (cluster_at stage i) tx))
    ∙ sym (map-set length stage i (get_or stage i [] ++ tx ∷ []))

-- who declares the keys after a transaction goes to its place, in the code's maps
abbrev pub Follows : LastStage → Place → Named → LastStage → Type 0
Follows old place more new = (q : Bytes) → who new.keys q ≡ keys_after (who old.keys) old.sizes.counts.items place more q

pub last_next : (stage : Stage) (place : Place) (tx : Envelope) (max : ℕ) (old new : LastStage) → IsRight max stage tx place → IsLast (begun stage place) old
    → Follows old place (named_by tx) new → new.sizes.counts.items ≡ counts_after old.sizes.counts.items place → IsRanked new.sizes
    → IsLast (last_after stage place tx) new
last_next stage place tx max old new right h keys counts ranked = record {
  keys =
      known_as (last_after stage place tx) (keys_after (who old.keys) (sizes_of (begun stage place)) place (named_by tx)) (who new.keys)
      (λ q. keys q ∙ ap (λ (ns : List ℕ). keys_after (who old.keys) ns place (named_by tx) q) h.counts)
      (keys_known stage place tx max (who old.keys) right h.keys);
  counts = counts ∙ ap (λ (ns : List ℕ). counts_after ns place) h.counts ∙ counts_known stage place tx;
  ranked = ranked;
}

pub place_is : (max n : ℕ) (stage : Stage) (tx : Envelope) (last : LastStage) → IsGood max n stage → IsLast stage last
    → place_by max last.sizes.counts.items (met_by (who last.keys) (named_by tx)) ≡ place_in max stage tx
place_is max n stage tx last good h =
    ap (λ (ns : List ℕ). place_by max ns (met_by (who last.keys) (named_by tx))) h.counts
    ∙ same_place max stage tx (met_by (who last.keys) (named_by tx)) (met_is stage (who last.keys) tx good.apart h.keys)

pub place_there : (max n : ℕ) (stage : Stage) (tx : Envelope) (place : Place) (counts : List ℕ) → IsGood max n stage → n < 18446744073709551615 → counts ≡ sizes_of (begun stage place)
    → IsRight max stage tx place
    → IsThere counts place
place_there max n stage tx NewStage counts good lt e right = tt
place_there max n stage tx NewCluster counts good lt e right = tt
place_there max n stage tx (InCluster i) counts good lt e right =
    let small = good.small i in
    let within : i < length stage = right.0 in
    let count : length (sizes_of stage) ≡ length stage = length-map stage length in
    subst (λ (ns : List ℕ). IsThere ns (InCluster i)) (sym e)
    (omega (arith, within, count), subst (λ (m : ℕ). m < 18446744073709551615) (sym (size_at stage i)) (omega (arith, small, lt)))

-- a stage that is new, and one that goes on
pub begun_new : (stage : Stage) (place : Place) (last fresh : LastStage) → place ≡ NewStage → last ≡ fresh → IsLast [] fresh → IsLast (begun stage place) last
begun_new stage place last fresh is e h = subst (λ (p : Place). IsLast (begun stage p) last) (sym is) (subst (IsLast []) (sym e) h)

pub begun_old : (stage : Stage) (place : Place) (last old : LastStage) → (place ≡ NewStage → ⊥) → last ≡ old → IsLast stage old → IsLast (begun stage place) last
begun_old stage NewStage last old other e h = absurd (other refl)
begun_old stage NewCluster last old other e h = subst (IsLast stage) (sym e) h
begun_old stage (InCluster i) last old other e h = subst (IsLast stage) (sym e) h

-- ---- a list

pub one_step : (max : ℕ) (envelopes : List Envelope) (n : ℕ) (tx : Envelope) → n < length envelopes → tx ≡ get_or envelopes n tx
    → building max (take (n + 1) envelopes) ≡ put (building max (take n envelopes)) (place_in max (building max (take n envelopes)).last tx) tx
one_step max envelopes n tx lt is = fold_more (placed max) start envelopes n tx lt is

some_is : {A : Type 0} (x y : A) → Some x ≡ Some y → x ≡ y
some_is x y e = cc

-- the place of the envelope at index n
pub planned_is : (max : ℕ) (envelopes : List Envelope) (n : ℕ) (tx : Envelope) (places : List Place) (place : Place) → n < length envelopes → tx ≡ get_or envelopes n tx
    → ArePlanned max envelopes (length envelopes) places → place ≡ get_or places n NewStage → place ≡ place_in max (building max (take n envelopes)).last tx
planned_is max envelopes n tx places place lt at h is =
    some_is place (place_in max (building max (take n envelopes)).last tx)
    (sym (slice_get-get_or places n NewStage (let e = h.count in omega (arith, e, lt)) ∙ ap (λ (p : Place). Some p) (sym is))
    ∙ h.each n tx lt (slice_get_read envelopes (length envelopes) n tx refl lt at))

module _ (max : ℕ) (some : 0 < max) (envelopes : List Envelope) where
  abbrev so_far : ℕ → Building
  so_far n = building max (take n envelopes)

  pub good_so_far : (n : ℕ) → n ≤ length envelopes → IsGood max n (so_far n).last
  good_so_far n le = subst (λ (m : ℕ). IsGood max m (so_far n).last) (length-take-le n envelopes le) (built_all max (take n envelopes) some).last

  last_of_put : (b : Building) (place : Place) (tx : Envelope) → (put b place tx).last ≡ last_after b.last place tx
  last_of_put b NewStage tx = refl
  last_of_put b NewCluster tx = refl
  last_of_put b (InCluster i) tx = refl

  -- the place that the code finds by the bytes of a transaction's keys
  abbrev pub IsPlaced : LastStage → Named → Place → Type 0
  IsPlaced last more place = place ≡ place_by max last.sizes.counts.items (met_by (who last.keys) more)

  pub plan_place : (n : ℕ) (tx : Envelope) (more : Named) (last : LastStage) (place : Place) → n ≤ length envelopes → more ≡ named_by tx → IsLast (so_far n).last last
      → IsPlaced last more place → place ≡ place_in max (so_far n).last tx
  plan_place n tx more last place le names h is =
      is ∙ ap (λ (m : Named). place_by max last.sizes.counts.items (met_by (who last.keys) m)) names ∙ place_is max n (so_far n).last tx last (good_so_far n le) h

  pub plan_there : (n : ℕ) (tx : Envelope) (more : Named) (old last : LastStage) (place : Place) → n < length envelopes → length envelopes < 18446744073709551615 → more ≡ named_by tx
      → IsLast (so_far n).last old → IsPlaced old more place → IsLast (begun (so_far n).last place) last → IsThere last.sizes.counts.items place
  plan_there n tx more old last place lt room names h is begins =
      place_there max n (so_far n).last tx place last.sizes.counts.items (good_so_far n (omega arith)) (omega arith) begins.counts
      (subst (IsRight max (so_far n).last tx) (sym (plan_place n tx more old place (omega arith) names h is)) (place_right max (so_far n).last tx some))

  pub plan_last : (n : ℕ) (tx : Envelope) (more : Named) (old last new : LastStage) (place : Place) → n < length envelopes → tx ≡ get_or envelopes n tx → more ≡ named_by tx
      → IsLast (so_far n).last old → IsPlaced old more place → IsLast (begun (so_far n).last place) last → Follows last place more new
      → new.sizes.counts.items ≡ counts_after last.sizes.counts.items place → IsRanked new.sizes → IsLast (so_far (n + 1)).last new
  plan_last n tx more old last new place lt at names h is begins keys counts ranked =
      let same : place ≡ place_in max (so_far n).last tx = plan_place n tx more old place (omega arith) names h is in
      subst (λ (s : Stage). IsLast s new)
      (sym (ap (λ (b : Building). b.last) (one_step max envelopes n tx lt at) ∙ last_of_put (so_far n) (place_in max (so_far n).last tx) tx ∙ ap (λ (p : Place). last_after (so_far n).last p tx) (sym same)))
      (last_next (so_far n).last place tx max last new (subst (IsRight max (so_far n).last tx) (sym same) (place_right max (so_far n).last tx some)) begins
      (subst (λ (m : Named). Follows last place m new) names keys) counts ranked)

  pub planned_more : (n : ℕ) (tx : Envelope) (places : List Place) (place : Place) → n < length envelopes → tx ≡ get_or envelopes n tx → place ≡ place_in max (so_far n).last tx
      → ArePlanned max envelopes n places → ArePlanned max envelopes (n + 1) (places ++ place ∷ [])
  planned_more n tx places place lt is same h = record { count = length_push places place ∙ ap (λ (m : ℕ). m + 1) h.count; each = each }
    where
      each : (k : ℕ) (x : Envelope) → k < n + 1 → slice_get envelopes k ≡ Some x → slice_get (places ++ place ∷ []) k ≡ Some (place_in max (so_far k).last x)
      each k x less at =
          split_last k n less
          (λ below. get_left places place k (let e = h.count in omega (arith, e, below)) ∙ h.each k x below at)
          (λ end.
          let here : tx ≡ x = some_is tx x (sym (slice_get_read envelopes (length envelopes) n tx refl lt is) ∙ ap (slice_get envelopes) (sym end) ∙ at) in
          ap (slice_get (places ++ place ∷ [])) (end ∙ sym h.count) ∙ get_end places place
          ∙ ap (λ (p : Place). Some p) (same ∙ ap₂ (λ (m : ℕ) (y : Envelope). place_in max (so_far m).last y) (sym end) here))

-- a plan as another list holds it
pub planned_as : (max : ℕ) (xs ys : List Envelope) (places lent : List Place) → xs ≡ ys → lent ≡ places → ArePlanned max xs (length xs) places → ArePlanned max ys (length ys) lent
planned_as max xs ys places lent same even h =
    subst (λ (zs : List Envelope). ArePlanned max zs (length zs) lent) same (subst (λ (ps : List Place). ArePlanned max xs (length xs) ps) (sym even) h)
