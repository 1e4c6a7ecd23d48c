-- Where a transaction goes.
use Rattle.std.specs.List.{list_all, position_or_len, prefix_len}
use Rattle.std.specs.Prelude.{◌&&◌, nat_le, nat_lt, not}
use Rattle.std.proofs.Common.{◌≡◌, ◌⊎◌, inl, inr, ℕ, zero, suc, ◌+◌, ◌<◌, ◌≤◌, Bool, true, false, List, [], ◌∷◌, map, length, get_or, cond, refl, sym, ap, subst, ◌∙◌, arith}
use Rattle.std.proofs.lemmas.Bool.{cases_order}
use Rattle.std.proofs.lemmas.List.{length-map, get_or_past}
use Rattle.std.proofs.lemmas.Bool.Decides.{Decides-ltb, leb_tells}
use Rattle.std.proofs.lemmas.List.Folds.{list_all_at}
use Rattle.stage_runs.specs.Transactions.{Envelope}
use Rattle.stage_runs.specs.Runs.{Cluster, Stage}
use Rattle.stage_runs.proofs.Lemmas.{cases, never}
use Rattle.set_build.specs.Built.{meets, meeting_from, first_least, fewest, place_for, place_in}
use Rattle.set_build.specs.Known.{cluster_at, IsMet, place_by}
use Rattle.set_build.specs.declared.met.Met.{Met}
use Rattle.set_build.specs.declared.met.Met.TheVariants as met
use Rattle.set_build.specs.declared.place.Place.{Place}
use Rattle.set_build.specs.declared.place.Place.TheVariants.{NewStage, NewCluster, InCluster}
use Rattle.set_build.proofs.Meets.{meets_nothing}
use Rattle.set_build.proofs.Meeting.{is_unique}

-- ---- the first of the least numbers

pub position_is : {A : Type 0} (test : A → Bool) (xs : List A) (d : A) (i : ℕ) → i < length xs → test (get_or xs i d) ≡ true → ((j : ℕ) → j < i → test (get_or xs j d) ≡ false)
    → position_or_len test xs ≡ i
position_is test [] d i lt here before = absurd (omega arith)
position_is test (x ∷ xs) d zero lt here before = ap (λ (b : Bool). cond (not b) (1 + prefix_len (λ y. not (test y)) xs) 0) here
position_is test (x ∷ xs) d (suc i) lt here before =
    let rest : prefix_len (λ y. not (test y)) xs ≡ i = position_is test xs d i (omega arith) here (λ j less. before (suc j) (omega arith)) in
    ap (λ (b : Bool). cond (not b) (1 + prefix_len (λ y. not (test y)) xs) 0) (before 0 (omega arith)) ∙ omega arith

position_within : {A : Type 0} (test : A → Bool) (xs : List A) (d : A) (i : ℕ) → i < length xs → test (get_or xs i d) ≡ true → position_or_len test xs < length xs
position_within test [] d i lt here = absurd (omega arith)
position_within test (x ∷ xs) d zero lt here = subst (λ (n : ℕ). n < suc (length xs)) (sym (ap (λ (b : Bool). cond (not b) (1 + prefix_len (λ y. not (test y)) xs) 0) here)) (omega arith)
position_within test (x ∷ xs) d (suc i) lt here =
    elim (test x) as (λ b. cond (not b) (1 + prefix_len (λ y. not (test y)) xs) 0 < suc (length xs)) [
      | true ↦ omega arith
      | false ↦ let rest : prefix_len (λ y. not (test y)) xs < length xs = position_within test xs d i (omega arith) here in omega arith
    ]

both : (a b : Bool) → a ≡ true → b ≡ true → (a && b) ≡ true
both true b p q = q
both false b p q = cc

le_true : (a b : ℕ) → a ≤ b → nat_le a b ≡ true
le_true a b le = at (leb_tells a b)
  where
    at : ((nat_le a b ≡ true) × (a ≤ b)) ⊎ ((nat_le a b ≡ false) × (b < a)) → nat_le a b ≡ true
    at (inl k) = k.0
    at (inr k) = let lt = k.1 in absurd (omega (arith, le, lt))

le_false : (a b : ℕ) → b < a → nat_le a b ≡ false
le_false a b lt = at (leb_tells a b)
  where
    at : ((nat_le a b ≡ true) × (a ≤ b)) ⊎ ((nat_le a b ≡ false) × (b < a)) → nat_le a b ≡ false
    at (inl k) = let le = k.1 in absurd (omega (arith, le, lt))
    at (inr k) = k.0

all_least : (n : ℕ) (numbers : List ℕ) → ((j : ℕ) → j < length numbers → n ≤ get_or numbers j 0) → list_all (nat_le n) numbers ≡ true
all_least n [] h = refl
all_least n (x ∷ numbers) h =
    both (nat_le n x) (list_all (nat_le n) numbers) (le_true n x (h 0 (omega arith))) (all_least n numbers (λ j lt. h (suc j) (omega arith)))

least_index : (numbers : List ℕ) → 0 < length numbers → (i : ℕ) × (i < length numbers) × ((j : ℕ) → j < length numbers → get_or numbers i 0 ≤ get_or numbers j 0)
least_index [] some = absurd (omega arith)
least_index (x ∷ []) some = (0, omega arith, first)
  where
    first : (j : ℕ) → j < 1 → x ≤ get_or (x ∷ []) j 0
    first zero lt = omega arith
    first (suc j) lt = absurd (omega arith)
least_index (x ∷ y ∷ numbers) some = at (least_index (y ∷ numbers) (omega arith))
  where
    at : (i : ℕ) × (i < suc (length numbers)) × ((j : ℕ) → j < suc (length numbers) → get_or (y ∷ numbers) i 0 ≤ get_or (y ∷ numbers) j 0)
        → (i : ℕ) × (i < suc (suc (length numbers))) × ((j : ℕ) → j < suc (suc (length numbers)) → get_or (x ∷ y ∷ numbers) i 0 ≤ get_or (x ∷ y ∷ numbers) j 0)
    at k = by (cases_le x (get_or (y ∷ numbers) k.0 0))
      where
        cases_le : (a b : ℕ) → (a ≤ b) ⊎ (b < a)
        cases_le a b = from (cases_order a b)
          where
            from : (a ≡ b) ⊎ ((a < b) ⊎ (b < a)) → (a ≤ b) ⊎ (b < a)
            from (inl same) = inl (omega arith)
            from (inr (inl lt)) = inl (omega arith)
            from (inr (inr lt)) = inr lt

        by : (x ≤ get_or (y ∷ numbers) k.0 0) ⊎ (get_or (y ∷ numbers) k.0 0 < x)
            → (i : ℕ) × (i < suc (suc (length numbers))) × ((j : ℕ) → j < suc (suc (length numbers)) → get_or (x ∷ y ∷ numbers) i 0 ≤ get_or (x ∷ y ∷ numbers) j 0)
        by (inl le) = (0, omega arith, first)
          where
            first : (j : ℕ) → j < suc (suc (length numbers)) → x ≤ get_or (x ∷ y ∷ numbers) j 0
            first zero lt = omega arith
            first (suc j) lt = let rest = k.2 j (omega arith) in omega (arith, rest, le)
        by (inr less) = (suc k.0, let lt = k.1 in omega (arith, lt), later)
          where
            later : (j : ℕ) → j < suc (suc (length numbers)) → get_or (y ∷ numbers) k.0 0 ≤ get_or (x ∷ y ∷ numbers) j 0
            later zero lt = omega (arith, less)
            later (suc j) lt = k.2 j (omega arith)

pub first_least_within : (numbers : List ℕ) → 0 < length numbers → first_least numbers < length numbers
first_least_within numbers some =
    let k = least_index numbers some in
    position_within (λ n. list_all (nat_le n) numbers) numbers 0 k.0 k.1 (all_least (get_or numbers k.0 0) numbers k.2)

pub first_least_is : (numbers : List ℕ) (i : ℕ) → i < length numbers → ((j : ℕ) → j < length numbers → get_or numbers i 0 ≤ get_or numbers j 0)
    → ((j : ℕ) → j < i → get_or numbers i 0 < get_or numbers j 0) → first_least numbers ≡ i
first_least_is numbers i lt least first =
    position_is (λ n. list_all (nat_le n) numbers) numbers 0 i lt (all_least (get_or numbers i 0) numbers least)
    (λ j less. list_all_at (nat_le (get_or numbers j 0)) numbers i 0 lt (le_false (get_or numbers j 0) (get_or numbers i 0) (first j less)))

-- ---- the clusters that are met

abbrev summary : List ℕ → Met
summary [] = met.None
summary (i ∷ []) = met.One i
summary (i ∷ j ∷ more) = met.Many

-- the same as `IsMet` of indices that begin with n
abbrev MetFrom : ℕ → (ℕ → Bool) → Met → Type 0
MetFrom n test met.None = (k : ℕ) → test k ≡ false
MetFrom n test (met.One i) = (k : ℕ) × (i ≡ n + k) × (test k ≡ true) × ((l : ℕ) → test l ≡ true → l ≡ k)
MetFrom n test met.Many = (k : ℕ) × (l : ℕ) × (k ≡ l → ⊥) × (test k ≡ true) × (test l ≡ true)

abbrev meets_at : Stage → Envelope → ℕ → Bool
meets_at stage tx k = meets (cluster_at stage k) tx

not_met : (n : ℕ) (c : Cluster) (stage : Stage) (tx : Envelope) (m : Met) → meets c tx ≡ false → MetFrom (suc n) (meets_at stage tx) m → MetFrom n (meets_at (c ∷ stage) tx) m
not_met n c stage tx met.None none h = each
  where
    each : (k : ℕ) → meets_at (c ∷ stage) tx k ≡ false
    each zero = none
    each (suc k) = h k
not_met n c stage tx (met.One i) none h = (suc h.0, let e = h.1 in omega (arith, e), h.2, each)
  where
    each : (l : ℕ) → meets_at (c ∷ stage) tx l ≡ true → l ≡ suc h.0
    each zero t = never t none
    each (suc l) t = ap suc (h.3 l t)
not_met n c stage tx met.Many none h = (suc h.0, suc h.1, λ e. h.2 (omega (arith, e)), h.3, h.4)

one_met : (n : ℕ) (c : Cluster) (stage : Stage) (tx : Envelope) (found : List ℕ) → meets c tx ≡ true → MetFrom (suc n) (meets_at stage tx) (summary found)
    → MetFrom n (meets_at (c ∷ stage) tx) (summary (n ∷ found))
one_met n c stage tx [] is h = (0, omega arith, is, each)
  where
    each : (l : ℕ) → meets_at (c ∷ stage) tx l ≡ true → l ≡ 0
    each zero t = refl
    each (suc l) t = never t (h l)
one_met n c stage tx (i ∷ []) is h = (0, suc h.0, λ e. absurd (omega (arith, e)), is, h.2)
one_met n c stage tx (i ∷ j ∷ more) is h = (0, suc h.0, λ e. absurd (omega (arith, e)), is, h.3)

met_from : (n : ℕ) (stage : Stage) (tx : Envelope) → MetFrom n (meets_at stage tx) (summary (meeting_from n stage tx))
met_from n [] tx = λ k. meets_nothing tx
met_from n (c ∷ stage) tx =
    elim (meets c tx) as (λ b. meets c tx ≡ b → MetFrom n (meets_at (c ∷ stage) tx) (summary (cond b (n ∷ meeting_from (suc n) stage tx) (meeting_from (suc n) stage tx)))) [
      | true ↦ λ is. one_met n c stage tx (meeting_from (suc n) stage tx) is (met_from (suc n) stage tx)
      | false ↦ λ is. not_met n c stage tx (summary (meeting_from (suc n) stage tx)) is (met_from (suc n) stage tx)
    ] refl

from_start : (test : ℕ → Bool) (m : Met) → MetFrom 0 test m → IsMet test m
from_start test met.None h = h
from_start test (met.One i) h =
    let same : i ≡ h.0 = let e = h.1 in omega (arith, e) in
    (ap test same ∙ h.2, λ j t. h.3 j t ∙ sym same)
from_start test met.Many h = h

pub met_in : (stage : Stage) (tx : Envelope) → IsMet (meets_at stage tx) (summary (meeting_from 0 stage tx))
met_in stage tx = from_start (meets_at stage tx) (summary (meeting_from 0 stage tx)) (met_from 0 stage tx)

-- ---- the place

place_of : (max : ℕ) (stage : Stage) (found : List ℕ) → place_by max (map length stage) (summary found) ≡ place_for max stage found
place_of max stage [] = ap (λ (n : ℕ). cond (nat_lt n max) NewCluster (InCluster (fewest stage))) (length-map stage length)
place_of max stage (i ∷ []) = refl
place_of max stage (i ∷ j ∷ more) = refl

pub same_place : (max : ℕ) (stage : Stage) (tx : Envelope) (m : Met) → IsMet (meets_at stage tx) m → place_by max (map length stage) m ≡ place_in max stage tx
same_place max stage tx m h =
    ap (place_by max (map length stage)) (is_unique (meets_at stage tx) m (summary (meeting_from 0 stage tx)) h (met_in stage tx))
    ∙ place_of max stage (meeting_from 0 stage tx)

-- The place is a cluster that the transaction joins without a conflict with another one, or a new one.
abbrev pub IsRight : ℕ → Stage → Envelope → Place → Type 0
IsRight max stage tx NewStage = 0 < length stage
IsRight max stage tx NewCluster = (length stage < max) × ((j : ℕ) → meets_at stage tx j ≡ false)
IsRight max stage tx (InCluster i) = (i < length stage) × ((j : ℕ) → (j ≡ i → ⊥) → meets_at stage tx j ≡ false)

within : (stage : Stage) (tx : Envelope) (i : ℕ) → meets_at stage tx i ≡ true → i < length stage
within stage tx i h = at (cases_order i (length stage))
  where
    past : length stage ≤ i → i < length stage
    past le = never h (ap (λ (c : Cluster). meets c tx) (get_or_past stage i [] le) ∙ meets_nothing tx)

    at : (i ≡ length stage) ⊎ ((i < length stage) ⊎ (length stage < i)) → i < length stage
    at (inl same) = past (omega arith)
    at (inr (inl lt)) = lt
    at (inr (inr gt)) = past (omega arith)

right : (max : ℕ) (stage : Stage) (tx : Envelope) (found : List ℕ) → 0 < max → IsMet (meets_at stage tx) (summary found) → IsRight max stage tx (place_for max stage found)
right max stage tx [] some h =
    elim (nat_lt (length stage) max) as (λ b. nat_lt (length stage) max ≡ b → IsRight max stage tx (cond b NewCluster (InCluster (fewest stage)))) [
      | true ↦ λ is. ((Decides-ltb (length stage) max).0 is, h)
      | false ↦ λ is. (full (λ lt. never ((Decides-ltb (length stage) max).1 lt) is), λ j other. h j)
    ] refl
  where
    full : (length stage < max → ⊥) → fewest stage < length stage
    full unfit =
        let count : length (map length stage) ≡ length stage = length-map stage length in
        let found : fewest stage < length (map length stage) = first_least_within (map length stage) (subst (λ (n : ℕ). 0 < n) (sym count) (positive (cases_order 0 (length stage)))) in
        subst (λ (n : ℕ). fewest stage < n) count found
      where
        positive : (0 ≡ length stage) ⊎ ((0 < length stage) ⊎ (length stage < 0)) → 0 < length stage
        positive (inl same) = absurd (unfit (omega arith))
        positive (inr (inl lt)) = lt
        positive (inr (inr lt)) = absurd (omega arith)
right max stage tx (i ∷ []) some h =
    (within stage tx i h.0, λ j other. cases (meets_at stage tx j) (λ t. absurd (other (h.1 j t))) (λ f. f))
right max stage tx (i ∷ j ∷ more) some h =
    let lt : h.0 < length stage = within stage tx h.0 h.3 in omega (arith, lt)

pub place_right : (max : ℕ) (stage : Stage) (tx : Envelope) → 0 < max → IsRight max stage tx (place_in max stage tx)
place_right max stage tx some = right max stage tx (meeting_from 0 stage tx) some (met_in stage tx)
