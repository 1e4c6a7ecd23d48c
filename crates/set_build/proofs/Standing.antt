-- Where the transactions of a list stand, after one more is placed.
use Rattle.std.specs.Prelude.{slice_get}
use Rattle.std.proofs.Common.{◌≡◌, ◌⊎◌, inl, inr, ℕ, ◌+◌, ◌<◌, true, false, List, [], ◌∷◌, ◌++◌, length, get_or, Option, Some, None, refl, sym, ap, subst, ◌∙◌, arith}
use Rattle.std.proofs.lemmas.Bool.{cases_eq, cases_order}
use Rattle.std.proofs.lemmas.List.{length_push, get_or_past}
use Rattle.std.proofs.lemmas.Option.{slice_get_within, slice_get-get_or}
use Rattle.stage_runs.specs.Transactions.{Envelope}
use Rattle.stage_runs.specs.Runs.{Cluster, Stage}
use Rattle.stage_runs.proofs.Lemmas.{never}
use Rattle.set_build.specs.Built.{meets}
use Rattle.set_build.specs.Placed.{Spot, at_spot, IsBefore, ArePlaced}
use Rattle.set_build.specs.Known.{cluster_at}
use Rattle.set_build.proofs.Tests.{get_left, get_end, get_past, get_none, get_cases, or_left, or_end, or_default}
use Rattle.set_build.proofs.Meets.{meets_whole}
use Rattle.set_build.proofs.Declaring.{Grows}

abbrev pub stage_at : List Stage → ℕ → Stage
stage_at stages n = get_or stages n []

-- the first spot with these indices
abbrev pub spot : ℕ → ℕ → ℕ → Spot
spot stage cluster index = record { stage = stage; cluster = cluster; index = index }

-- ---- one more transaction

-- One transaction is added at a spot where none stood. All others stand where they stood.
pub record Adds (stages : List Stage) (t : Spot) (tx : Envelope) (next : List Stage) : Type 0 where
  pub here : at_spot next t ≡ Some tx
  pub empty : at_spot stages t ≡ None
  pub others : (s : Spot) → (s ≡ t → ⊥) → at_spot next s ≡ at_spot stages s

-- Each transaction that conflicts with the new one stands before it.
abbrev pub IsLatest : List Stage → Spot → Envelope → Type 0
IsLatest stages t tx = (s : Spot) (x : Envelope) → at_spot stages s ≡ Some x → meets (x ∷ []) tx ≡ true → IsBefore s t

same_spot : (s t : Spot) → s.stage ≡ t.stage → s.cluster ≡ t.cluster → s.index ≡ t.index → s ≡ t
same_spot s t a b c =
    ap (λ (n : ℕ). spot n s.cluster s.index) a ∙ ap (λ (n : ℕ). spot t.stage n s.index) b ∙ ap (λ (n : ℕ). spot t.stage t.cluster n) c

cases_spot : {A : Type 0} (s t : Spot) → (s ≡ t → A) → ((s ≡ t → ⊥) → A) → A
cases_spot {A} s t same other = at (cases_eq s.stage t.stage) (cases_eq s.cluster t.cluster) (cases_eq s.index t.index)
  where
    at : (s.stage ≡ t.stage) ⊎ (s.stage ≡ t.stage → ⊥) → (s.cluster ≡ t.cluster) ⊎ (s.cluster ≡ t.cluster → ⊥) → (s.index ≡ t.index) ⊎ (s.index ≡ t.index → ⊥) → A
    at (inl a) (inl b) (inl c) = same (same_spot s t a b c)
    at (inr a) _ _ = other (λ e. a (ap (λ (x : Spot). x.stage) e))
    at (inl a) (inr b) _ = other (λ e. b (ap (λ (x : Spot). x.cluster) e))
    at (inl a) (inl b) (inr c) = other (λ e. c (ap (λ (x : Spot). x.index) e))

module _ (envelopes : List Envelope) (stages next : List Stage) (spots : List Spot) (tx : Envelope) (t : Spot) (h : ArePlaced envelopes stages spots)
    (adds : Adds stages t tx next) (latest : IsLatest stages t tx) where
  -- the transaction of an earlier spot
  there : (k : ℕ) (s : Spot) → k < length spots → slice_get spots k ≡ Some s → (x : Envelope) × (slice_get envelopes k ≡ Some x)
  there k s lt at = found (slice_get envelopes k) refl
    where
      found : (o : Option Envelope) → slice_get envelopes k ≡ o → (x : Envelope) × (slice_get envelopes k ≡ Some x)
      found (Some x) is = (x, is)
      found None is = absurd (missing (cases_order k (length envelopes)))
        where
          missing : (k ≡ length envelopes) ⊎ ((k < length envelopes) ⊎ (length envelopes < k)) → ⊥
          missing (inl same) = let e = h.count in absurd (omega (arith, e, lt))
          missing (inr (inr gt)) = let e = h.count in absurd (omega (arith, e, lt))
          missing (inr (inl less)) = let e = sym (slice_get-get_or envelopes k tx less) ∙ is in absurd cc

  elsewhere : (k : ℕ) (s : Spot) → k < length spots → slice_get spots k ≡ Some s → s ≡ t → ⊥
  elsewhere k s lt at same =
      let x = there k s lt at in
      let e : Some x.0 ≡ None = sym x.1 ∙ sym (h.there k s at) ∙ ap (at_spot stages) same ∙ adds.empty in cc

  still : (k : ℕ) (s : Spot) → k < length spots → slice_get spots k ≡ Some s → at_spot next s ≡ slice_get (envelopes ++ tx ∷ []) k
  still k s lt at =
      let count = h.count in
      adds.others s (elsewhere k s lt at) ∙ h.there k s at ∙ sym (get_left envelopes tx k (omega (arith, count, lt)))

  last_there : (k : ℕ) (s : Spot) → k ≡ length spots → t ≡ s → at_spot next s ≡ slice_get (envelopes ++ tx ∷ []) k
  last_there k s end same =
      ap (at_spot next) (sym same) ∙ adds.here ∙ sym (get_end envelopes tx)
      ∙ ap (slice_get (envelopes ++ tx ∷ [])) (sym (end ∙ h.count))

  once : (k l : ℕ) (s : Spot) → slice_get (spots ++ t ∷ []) k ≡ Some s → slice_get (spots ++ t ∷ []) l ≡ Some s → k ≡ l
  once k l s a b =
      get_cases spots t k s a
      (λ lt at_k. get_cases spots t l s b (λ less at_l. h.once k l s at_k at_l) (λ end same. absurd (elsewhere k s lt at_k (sym same))))
      (λ end same. get_cases spots t l s b (λ lt at_l. absurd (elsewhere l s lt at_l (sym same))) (λ even _. end ∙ sym even))

  all : (s : Spot) (x : Envelope) → at_spot next s ≡ Some x → (k : ℕ) × (slice_get (spots ++ t ∷ []) k ≡ Some s)
  all s x at =
      cases_spot s t
      (λ same. (length spots, get_end spots t ∙ ap (λ (r : Spot). Some r) (sym same)))
      (λ other. let k = h.all s x (sym (adds.others s other) ∙ at) in (k.0, get_left spots t k.0 (slice_get_within spots k.0 s k.1) ∙ k.1))

  order : (k l : ℕ) (x y : Envelope) (s r : Spot) → k < l → slice_get (envelopes ++ tx ∷ []) k ≡ Some x → slice_get (envelopes ++ tx ∷ []) l ≡ Some y
      → slice_get (spots ++ t ∷ []) k ≡ Some s → slice_get (spots ++ t ∷ []) l ≡ Some r → meets (x ∷ []) y ≡ true → IsBefore s r
  order k l x y s r lt at_k at_l spot_k spot_l m =
      let count = h.count in
      get_cases spots t k s spot_k
      (λ below spot_at. get_cases spots t l r spot_l
      (λ less spot_too.
      h.order k l x y s r lt (sym (get_left envelopes tx k (omega (arith, count, below))) ∙ at_k) (sym (get_left envelopes tx l (omega (arith, count, less))) ∙ at_l)
      spot_at spot_too m)
      (λ end same.
      let at_x : slice_get envelopes k ≡ Some x = sym (get_left envelopes tx k (omega (arith, count, below))) ∙ at_k in
      let same_y : tx ≡ y = some_same tx y (sym (get_end envelopes tx) ∙ ap (slice_get (envelopes ++ tx ∷ [])) (sym (end ∙ count)) ∙ at_l) in
      subst (IsBefore s) same (latest s x (h.there k s spot_at ∙ at_x) (ap (λ (z : Envelope). meets (x ∷ []) z) same_y ∙ m))))
      (λ end same. get_cases spots t l r spot_l (λ less _. absurd (omega (arith, end, less, lt))) (λ even _. absurd (omega (arith, end, even, lt))))
    where
      some_same : {A : Type 0} (a b : A) → Some a ≡ Some b → a ≡ b
      some_same a b e = cc

  pub placed_more : ArePlaced (envelopes ++ tx ∷ []) next (spots ++ t ∷ [])
  placed_more = record {
    count = let e = h.count in let a = length_push spots t in let b = length_push envelopes tx in omega (arith, e, a, b);
    there = λ k s at. get_cases spots t k s at (λ lt at_k. still k s lt at_k) (λ end same. last_there k s end same);
    once = once;
    all = all;
    order = order;
  }

-- ---- stages that have the same transactions

pub placed_same : (envelopes : List Envelope) (stages next : List Stage) (spots : List Spot) → ((s : Spot) → at_spot next s ≡ at_spot stages s) → ArePlaced envelopes stages spots
    → ArePlaced envelopes next spots
placed_same envelopes stages next spots e h = record {
  count = h.count;
  there = λ k s at. e s ∙ h.there k s at;
  once = h.once;
  all = λ s x at. h.all s x (sym (e s) ∙ at);
  order = h.order;
}

-- an empty stage at the end
pub at_empty : (stages : List Stage) (s : Spot) → at_spot (stages ++ [] ∷ []) s ≡ at_spot stages s
at_empty stages s = ap (λ (stage : Stage). slice_get (cluster_at stage s.cluster) s.index) (or_default stages [] s.stage)

-- ---- a cluster of the last stage that grows

module _ (earlier : List Stage) (last next : Stage) (i : ℕ) (tx : Envelope) (grows : Grows last i tx next) where
  abbrev pub grown_spot : Spot
  grown_spot = spot (length earlier) i (length (cluster_at last i))

  abbrev before : List Stage
  before = earlier ++ last ∷ []

  abbrev after : List Stage
  after = earlier ++ next ∷ []

  at_last : (s : Spot) → s.stage ≡ length earlier → at_spot before s ≡ slice_get (cluster_at last s.cluster) s.index
  at_last s e = ap (λ (stage : Stage). slice_get (cluster_at stage s.cluster) s.index) (ap (stage_at before) e ∙ or_end earlier last [])

  at_next : (s : Spot) → s.stage ≡ length earlier → at_spot after s ≡ slice_get (cluster_at next s.cluster) s.index
  at_next s e = ap (λ (stage : Stage). slice_get (cluster_at stage s.cluster) s.index) (ap (stage_at after) e ∙ or_end earlier next [])

  at_earlier : (s : Spot) → (s.stage ≡ length earlier → ⊥) → at_spot after s ≡ at_spot before s
  at_earlier s other =
      ap (λ (stage : Stage). slice_get (cluster_at stage s.cluster) s.index) (or_left earlier next [] s.stage other ∙ sym (or_left earlier last [] s.stage other))

  elsewhere_in : (s : Spot) → (s ≡ grown_spot → ⊥) → s.stage ≡ length earlier → (s.cluster ≡ i) ⊎ (s.cluster ≡ i → ⊥) → at_spot after s ≡ at_spot before s
  elsewhere_in s other e (inr apart) =
      at_next s e ∙ ap (λ (c : Cluster). slice_get c s.index) (grows.others s.cluster apart) ∙ sym (at_last s e)
  elsewhere_in s other e (inl same) =
      at_next s e ∙ ap (λ (c : Cluster). slice_get c s.index) (ap (cluster_at next) same ∙ grows.here)
      ∙ get_past (cluster_at last i) tx s.index (λ end. other (same_spot s grown_spot e same end))
      ∙ ap (λ (c : Cluster). slice_get c s.index) (ap (cluster_at last) (sym same)) ∙ sym (at_last s e)

  pub grown_adds : Adds before grown_spot tx after
  grown_adds = record {
    here = at_next grown_spot refl ∙ ap (λ (c : Cluster). slice_get c (length (cluster_at last i))) grows.here ∙ get_end (cluster_at last i) tx;
    empty = at_last grown_spot refl ∙ get_none (cluster_at last i);
    others = λ s other. at s other (cases_eq s.stage (length earlier));
  }
    where
      at : (s : Spot) → (s ≡ grown_spot → ⊥) → (s.stage ≡ length earlier) ⊎ (s.stage ≡ length earlier → ⊥) → at_spot after s ≡ at_spot before s
      at s other (inl e) = elsewhere_in s other e (cases_eq s.cluster i)
      at s other (inr ne) = at_earlier s ne

  pub grown_latest : ((j : ℕ) → (j ≡ i → ⊥) → meets (cluster_at last j) tx ≡ false) → IsLatest before grown_spot tx
  grown_latest unmet s x at m = by (cases_order s.stage (length earlier))
    where
      in_last : s.stage ≡ length earlier → (s.cluster ≡ i) ⊎ (s.cluster ≡ i → ⊥) → IsBefore s grown_spot
      in_last e (inl same) =
          let here : slice_get (cluster_at last i) s.index ≡ Some x = ap (λ (n : ℕ). slice_get (cluster_at last n) s.index) (sym same) ∙ sym (at_last s e) ∙ at in
          inr (e, same, slice_get_within (cluster_at last i) s.index x here)
      in_last e (inr other) =
          never (meets_whole (cluster_at last s.cluster) s.index x tx (sym (at_last s e) ∙ at) m) (unmet s.cluster other)

      past : length earlier < s.stage → at_spot before s ≡ None
      past gt =
          let more : length before ≡ length earlier + 1 = length_push earlier last in
          ap (λ (stage : Stage). slice_get (cluster_at stage s.cluster) s.index) (get_or_past before s.stage [] (omega (arith, more, gt)))

      by : (s.stage ≡ length earlier) ⊎ ((s.stage < length earlier) ⊎ (length earlier < s.stage)) → IsBefore s grown_spot
      by (inl e) = in_last e (cases_eq s.cluster i)
      by (inr (inl lt)) = inl lt
      by (inr (inr gt)) = let e : Some x ≡ None = sym at ∙ past gt in absurd cc

  pub grown_placed : (envelopes : List Envelope) (spots : List Spot) → ((j : ℕ) → (j ≡ i → ⊥) → meets (cluster_at last j) tx ≡ false) → ArePlaced envelopes before spots
      → ArePlaced (envelopes ++ tx ∷ []) after (spots ++ grown_spot ∷ [])
  grown_placed envelopes spots unmet h = placed_more envelopes before after spots tx grown_spot h grown_adds (grown_latest unmet)
