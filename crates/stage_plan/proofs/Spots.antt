-- The least of the conflicts at all keys is the least conflict of the stage.
use Rattle.std.specs.Cmp.{tied_itself}
use Rattle.std.specs.Cmp.Lexicographic.{slice_cmp, nat_list_cmp_total}
use Rattle.std.specs.FinMap.{get, find, entries, is_sorted, entries_sorted, get-entries, slice_cmp-IsAntisymmetric, nat_cmp-IsAntisymmetric}
use Rattle.std.specs.FinMap.Entries.{below_all}
use Rattle.std.specs.List.{fold, AllByRecursion}
use Rattle.std.specs.Option.{option_map}
use Rattle.std.specs.Ordering.{nat_cmp, is_lt, is_eq, eq_by_cmp, ordering_reverse}
use Rattle.std.specs.Prelude.{◌==◌, nat_lt, slice_get}
use Rattle.std.specs.declared.cmp.Ordering.{Ordering}
use Rattle.std.specs.declared.cmp.Ordering.TheVariants.{Less, Equal, Greater}
use Rattle.std.proofs.Common.{◌≡◌, ◌⊎◌, inl, inr, T, ℕ, ◌<◌, ◌≤◌, Bool, true, false, ◌||◌, ◌&&◌, List, [], ◌∷◌, length, Option, Some, None, IfSome, IfNone, cond, refl, sym, ap, ap₂, subst, ◌∙◌, arith}
use Rattle.std.proofs.lemmas.Bool.{cases_order}
use Rattle.std.proofs.lemmas.Bool.Decides.{Decides-eqb, Decides-ltb}
use Rattle.std.proofs.lemmas.List.{length-map}
use Rattle.std.proofs.lemmas.Option.{slice_get_within}
use Rattle.tx_xdr.specs.declared.set.Cluster as sets
use Rattle.stage_runs.specs.Maps.{Bytes, key_bytes}
use Rattle.stage_runs.specs.Runs.{Cluster, Stage, writes_in, declares_in, HasNoConflict}
use Rattle.stage_runs.specs.Conflicts.{meet_at, IsConflict, IsNotAfter, IsLeastConflict}
use Rattle.stage_runs.proofs.Lemmas.{both_first, both_second, free_from, left_false, never, one_true, right_false}
use Rattle.stage_plan.specs.KeyMaps.{ByKey}
use Rattle.stage_plan.specs.Meetings.{IsSecond, HasSecond, IsMeeting, IsKnown, AreKnown, Spot, is_before, lesser_spot, lesser_with, lesser_at, IsLeastSpot}
use Rattle.stage_plan.specs.Spots.{spot_of}
use Rattle.stage_plan.specs.declared.conflict.Conflict.{Conflict}
use Rattle.stage_plan.specs.declared.meeting.Meeting.{Meeting}
use Rattle.stage_plan.proofs.Least.{not_above_itself, meeting_declared}
use Rattle.stage_plan.proofs.Clusters.{not_less, envelopes_of}

abbrev order : Bytes → Bytes → Ordering
order a b = slice_cmp nat_cmp a b

abbrev Entry : Type 0
Entry = Bytes × Meeting

some_same : {A : Type 0} (x y : A) → Some x ≡ Some y → x ≡ y
some_same x y e = cc

-- ---- entries in order

less_from : (o : Ordering) → is_lt o ≡ true → o ≡ Less
less_from Less e = refl
less_from Equal e = cc
less_from Greater e = cc

equal_from : (o : Ordering) → is_eq o ≡ true → o ≡ Equal
equal_from Less e = cc
equal_from Equal e = refl
equal_from Greater e = cc

head_less : (x : Bytes) (e : Entry) (es : List Entry) → below_all order x (e ∷ es) ≡ true → order x e.0 ≡ Less
head_less x e es h = less_from (order x e.0) (both_first (is_lt (order x e.0)) (below_all order x es) h)

tail_below : (x : Bytes) (e : Entry) (es : List Entry) → below_all order x (e ∷ es) ≡ true → below_all order x es ≡ true
tail_below x e es h = both_second (is_lt (order x e.0)) (below_all order x es) h

-- an entry above another key is found past it
past : (x : Bytes) (v : Meeting) (es all : List Entry) → below_all order x es ≡ true → AllByRecursion (λ e. find order e.0 all ≡ Some e.1) es
    → AllByRecursion (λ e. find order e.0 ((x, v) ∷ all) ≡ Some e.1) es
past x v [] all h k = tt
past x v (e ∷ es) all h k =
    let above : order e.0 x ≡ Greater = nat_list_cmp_total.antisymm e.0 x ∙ ap ordering_reverse (head_less x e es h) in
    (ap (λ (o : Ordering). cond (is_eq o) (Some v) (find order e.0 all)) above ∙ k.0, past x v es all (tail_below x e es h) k.1)

each_found : (es : List Entry) → is_sorted order es ≡ true → AllByRecursion (λ e. find order e.0 es ≡ Some e.1) es
each_found [] s = tt
each_found (e ∷ es) s = (
  ap (λ (o : Ordering). cond (is_eq o) (Some e.1) (find order e.0 es)) (tied_itself nat_list_cmp_total e.0),
  past e.0 e.1 es es (both_first (below_all order e.0 es) (is_sorted order es) s) (each_found es (both_second (below_all order e.0 es) (is_sorted order es) s)),
)

-- what holds of each entry holds of one that is found
of_found : (P : Entry → Type 0) (es : List Entry) (q : Bytes) (m : Meeting) → AllByRecursion P es → find order q es ≡ Some m → P (q, m)
of_found P [] q m h e = cc
of_found P (x ∷ es) q m h e =
    elim (eq_by_cmp order q x.0) as (λ b. eq_by_cmp order q x.0 ≡ b → cond b (Some x.1) (find order q es) ≡ Some m → P (q, m)) [
      | true ↦ λ is f.
          let same : x.0 ≡ q = sym (slice_cmp-IsAntisymmetric nat_cmp-IsAntisymmetric q x.0 (equal_from (order q x.0) is)) in
          subst P (ap₂ (λ (k : Bytes) (v : Meeting). (k, v)) same (some_same x.1 m f)) h.0
      | false ↦ λ is f. of_found P es q m h.1 f
    ] refl e

-- ---- the least so far

-- a conflict at a key is not before another one
abbrev Bounded : Option Spot → Bytes → ℕ → Option ℕ → Type 0
Bounded best q first None = Unit
Bounded None q first (Some d) = ⊥
Bounded (Some s) q first (Some d) = IsNotAfter s.a s.b s.key first d q

abbrev Bounds : Option Spot → Entry → Type 0
Bounds best e = Bounded best e.0 e.1.first e.1.second

-- the key is below those of all other entries
abbrev IsBelow : Option Spot → List Entry → Type 0
IsBelow None es = Unit
IsBelow (Some s) es = below_all order s.key es ≡ true

before_from : (s t : Spot) → is_before s t ≡ true → (s.a < t.a) ⊎ ((s.a ≡ t.a) × (s.b < t.b))
before_from s t e =
    one_true (nat_lt s.a t.a) (s.a == t.a && nat_lt s.b t.b) e
    (λ less. inl ((Decides-ltb s.a t.a).0 less))
    (λ both. inr ((Decides-eqb s.a t.a).0 (both_first (s.a == t.a) (nat_lt s.b t.b) both), (Decides-ltb s.b t.b).0 (both_second (s.a == t.a) (nat_lt s.b t.b) both)))

not_before : (s t : Spot) → is_before s t ≡ false → (t.a ≤ s.a) × (t.a ≡ s.a → t.b ≤ s.b)
not_before s t e = (
  not_less s.a t.a (λ less. never ((Decides-ltb s.a t.a).1 less) (left_false (nat_lt s.a t.a) (s.a == t.a && nat_lt s.b t.b) e)),
  λ same. not_less s.b t.b
      (λ less. never (both (s.a == t.a) (nat_lt s.b t.b) ((Decides-eqb s.a t.a).1 (sym same)) ((Decides-ltb s.b t.b).1 less)) (right_false (nat_lt s.a t.a) (s.a == t.a && nat_lt s.b t.b) e)),
)
  where
    both : (a b : Bool) → a ≡ true → b ≡ true → (a && b) ≡ true
    both true b p q = q
    both false b p q = p

-- what a conflict bounds, one with lower indices bounds, too
lower : (n s : Spot) (first d : ℕ) (q : Bytes) → is_before n s ≡ true → IsNotAfter s.a s.b s.key first d q → IsNotAfter n.a n.b n.key first d q
lower n s first d q e h = at (before_from n s e)
  where
    at : (n.a < s.a) ⊎ ((n.a ≡ s.a) × (n.b < s.b)) → IsNotAfter n.a n.b n.key first d q
    at (inl less) =
        let le = h.0 in
        (omega (arith, less, le), (λ same. absurd (omega (arith, less, le, same)), λ same even. absurd (omega (arith, less, le, same))))
    at (inr both) =
        let le = h.0 in
        let is = both.0 in
        let less = both.1 in (
          omega (arith, is, le),
          (
            λ same. let more = h.1.0 (sym is ∙ same) in omega (arith, less, more),
            λ same even. absurd (let more = h.1.0 (sym is ∙ same) in omega (arith, less, more, even)),
          ),
        )

bounds_lesser : (best : Option Spot) (new : Spot) (q : Bytes) (first : ℕ) (s : Option ℕ) → Bounded best q first s → Bounded (Some (lesser_spot best new)) q first s
bounds_lesser best new q first None h = tt
bounds_lesser None new q first (Some d) h = absurd h
bounds_lesser (Some s) new q first (Some d) h =
    elim (is_before new s) as (λ b. is_before new s ≡ b → Bounded (Some (cond b new s)) q first (Some d)) [ true ↦ λ e. lower new s first d q e h | false ↦ λ e. h ] refl

bounds_with : (best : Option Spot) (key : Bytes) (a : ℕ) (b : Option ℕ) (q : Bytes) (first : ℕ) (s : Option ℕ) → Bounded best q first s → Bounded (lesser_with best key a b) q first s
bounds_with best key a None q first s h = h
bounds_with best key a (Some b) q first s h = bounds_lesser best (record { a = a; b = b; key = key }) q first s h

bounds_fold : (es : List Entry) (best : Option Spot) (e : Entry) → Bounds best e → Bounds (fold lesser_at best es) e
bounds_fold [] best e h = h
bounds_fold (x ∷ es) best e h = bounds_fold es (lesser_at best x) e (bounds_with best x.0 x.1.first x.1.second e.0 e.1.first e.1.second h)

itself : (s : Spot) → IsNotAfter s.a s.b s.key s.a s.b s.key
itself s = (omega arith, (λ same. omega arith, λ same even. not_above_itself s.key))

-- a conflict is bounded from then on
here_with : (best : Option Spot) (key : Bytes) (a : ℕ) (b : Option ℕ) (v : Meeting) (es : List Entry) → IsBelow best ((key, v) ∷ es) → Bounded (lesser_with best key a b) key a b
here_with best key a None v es h = tt
here_with None key a (Some b) v es h = itself (record { a = a; b = b; key = key })
here_with (Some s) key a (Some b) v es h =
    let new : Spot = record { a = a; b = b; key = key } in
    elim (is_before new s) as (λ t. is_before new s ≡ t → Bounded (Some (cond t new s)) key a (Some b)) [
      | true ↦ λ e. itself new
      | false ↦ λ e. ((not_before new s e).0, ((not_before new s e).1, λ same even greater. less_not (order s.key key) (head_less s.key (key, v) es h) greater))
    ] refl
  where
    less_not : (o : Ordering) → o ≡ Less → o ≡ Greater → ⊥
    less_not o p q = cc

below_with : (best : Option Spot) (key : Bytes) (a : ℕ) (b : Option ℕ) (v : Meeting) (es : List Entry) → IsBelow best ((key, v) ∷ es) → below_all order key es ≡ true → IsBelow (lesser_with best key a b) es
below_with None key a None v es h k = tt
below_with (Some s) key a None v es h k = tail_below s.key (key, v) es h
below_with None key a (Some b) v es h k = k
below_with (Some s) key a (Some b) v es h k = at (is_before (record { a = a; b = b; key = key }) s)
  where
    at : (t : Bool) → IsBelow (Some (cond t (record { a = a; b = b; key = key }) s)) es
    at true = k
    at false = tail_below s.key (key, v) es h

each_bounded : (es : List Entry) (best : Option Spot) → IsBelow best es → is_sorted order es ≡ true → AllByRecursion (Bounds (fold lesser_at best es)) es
each_bounded [] best h s = tt
each_bounded (e ∷ es) best h s = (
  bounds_fold es (lesser_at best e) e (here_with best e.0 e.1.first e.1.second e.1 es h),
  each_bounded es (lesser_at best e) (below_with best e.0 e.1.first e.1.second e.1 es h (both_first (below_all order e.0 es) (is_sorted order es) s))
      (both_second (below_all order e.0 es) (is_sorted order es) s),
)

true_from : (b : Bool) → T b → b ≡ true
true_from true h = refl
true_from false h = absurd h

module _ (met : ByKey Meeting) where
  -- the map has this conflict
  record IsAt (s : Spot) : Type 0 where
    m : Meeting
    at : get met s.key ≡ Some m
    first : m.first ≡ s.a
    second : m.second ≡ Some s.b

  abbrev IsGood : Option Spot → Type 0
  IsGood None = Unit
  IsGood (Some s) = IsAt s

  good_with : (best : Option Spot) (key : Bytes) (m : Meeting) (b : Option ℕ) → m.second ≡ b → get met key ≡ Some m → IsGood best → IsGood (lesser_with best key m.first b)
  good_with best key m None e at h = h
  good_with None key m (Some b) e at h = record { m = m; at = at; first = refl; second = e }
  good_with (Some s) key m (Some b) e at h = by (is_before (record { a = m.first; b = b; key = key }) s)
    where
      by : (t : Bool) → IsAt (cond t (record { a = m.first; b = b; key = key }) s)
      by true = record { m = m; at = at; first = refl; second = e }
      by false = h

  good_fold : (es : List Entry) (best : Option Spot) → IsGood best → AllByRecursion (λ e. get met e.0 ≡ Some e.1) es → IsGood (fold lesser_at best es)
  good_fold [] best h k = h
  good_fold (e ∷ es) best h k = good_fold es (lesser_at best e) (good_with best e.0 e.1 e.1.second refl k.0 h) k.1

  in_order : is_sorted order (entries met) ≡ true
  in_order = true_from (is_sorted order (entries met)) (entries_sorted met)

  each_there : (es : List Entry) → AllByRecursion (λ e. find order e.0 (entries met) ≡ Some e.1) es → AllByRecursion (λ e. get met e.0 ≡ Some e.1) es
  each_there [] h = tt
  each_there (e ∷ es) h = (get-entries met e.0 ∙ h.0, each_there es h.1)

  best_good : IsGood (fold lesser_at None (entries met))
  best_good = good_fold (entries met) None tt (each_there (entries met) (each_found (entries met) in_order))

  best_bounds : (q : Bytes) (m : Meeting) → get met q ≡ Some m → Bounds (fold lesser_at None (entries met)) (q, m)
  best_bounds q m e = of_found (Bounds (fold lesser_at None (entries met))) (entries met) q m (each_bounded (entries met) None tt in_order) (sym (get-entries met q) ∙ e)

-- ---- the conflicts of a stage

unwritten : (c d : Cluster) (q : Bytes) → declares_in c q ≡ true → meet_at c d q ≡ false → writes_in d q ≡ false
unwritten c d q decl none = at (writes_in d q) (declares_in c q) decl (right_false (writes_in c q && declares_in d q) (writes_in d q && declares_in c q) none)
  where
    at : (w e : Bool) → e ≡ true → (w && e) ≡ false → w ≡ false
    at true e p n = absurd (never p n)
    at false e p n = refl

no_meeting : (c d : Cluster) (q : Bytes) → writes_in c q ≡ false → writes_in d q ≡ false → meet_at c d q ≡ false
no_meeting c d q v w = ap₂ (λ (x y : Bool). (x && declares_in d q) || (y && declares_in c q)) v w

module _ (stage : Stage) (q : Bytes) where
  -- what is known of a key with a conflict: a conflict with indices that are not higher
  record IsBeaten (a b : ℕ) (m : Meeting) : Type 0 where
    d : ℕ
    second : m.second ≡ Some d
    le : m.first ≤ a
    then : m.first ≡ a → d ≤ b

  module _ (a b : ℕ) (conflict : IsConflict stage a b q) where
    a_within : a < length stage
    a_within = slice_get_within stage a conflict.first conflict.at_a

    b_within : b < length stage
    b_within = slice_get_within stage b conflict.second conflict.at_b

    same_first : (m : Meeting) (h : IsMeeting stage (length stage) q m) → m.first ≡ a → h.cluster ≡ conflict.first
    same_first m h same = some_same h.cluster conflict.first (sym h.at ∙ ap (slice_get stage) same ∙ conflict.at_a)

    -- the first cluster that declares the key conflicts with the second one of the conflict, if it is the first one of that
    met_first : (m : Meeting) (h : IsMeeting stage (length stage) q m) → m.first ≡ a → meet_at h.cluster conflict.second q ≡ true
    met_first m h same = ap (λ (c : Cluster). meet_at c conflict.second q) (same_first m h same) ∙ conflict.meet

    not_after : (m : Meeting) → IsMeeting stage (length stage) q m → m.first ≤ a
    not_after m h = not_less a m.first (λ less. never (meeting_declared conflict.first conflict.second q conflict.meet) (h.earlier a conflict.first less conflict.at_a))

    has_second : (m : Meeting) (h : IsMeeting stage (length stage) q m) → HasSecond stage (length stage) m.first h.cluster q None → ⊥
    has_second m h none = at (cases_order m.first a)
      where
        before : a < b
        before = conflict.before

        at : (m.first ≡ a) ⊎ ((m.first < a) ⊎ (a < m.first)) → ⊥
        at (inl same) = never (met_first m h same) (none b conflict.second (omega (arith, before, same)) b_within conflict.at_b)
        at (inr (inl less)) =
            never conflict.meet
            (no_meeting conflict.first conflict.second q (unwritten h.cluster conflict.first q h.declares (none a conflict.first less a_within conflict.at_a))
            (unwritten h.cluster conflict.second q h.declares (none b conflict.second (omega (arith, before, less)) b_within conflict.at_b)))
        at (inr (inr more)) = let le = not_after m h in omega (arith, le, more)

    beaten_by : (m : Meeting) (h : IsMeeting stage (length stage) q m) (s : Option ℕ) → m.second ≡ s → HasSecond stage (length stage) m.first h.cluster q s → IsBeaten a b m
    beaten_by m h None e none = absurd (has_second m h none)
    beaten_by m h (Some d) e second = record {
      d = d;
      second = e;
      le = not_after m h;
      then = λ same. not_less b d
          (λ less. never (met_first m h same) (second.before b conflict.second (let before = conflict.before in omega (arith, before, same)) less conflict.at_b));
    }

    beaten : (m : Meeting) → IsMeeting stage (length stage) q m → IsBeaten a b m
    beaten m h = beaten_by m h m.second refl h.second

    not_none : IsKnown stage (length stage) q None → ⊥
    not_none h = never (meeting_declared conflict.first conflict.second q conflict.meet) (h a conflict.first a_within conflict.at_a)

-- ---- the least conflict

module _ (stage : Stage) (met : ByKey Meeting) (known : AreKnown stage (length stage) met) where
  known_at : (q : Bytes) (o : Option Meeting) → get met q ≡ o → IsKnown stage (length stage) q o
  known_at q o e = subst (IsKnown stage (length stage) q) e (known q)

  -- the conflict that is known at a key
  conflict_at : (s : Spot) → IsAt met s → IsConflict stage s.a s.b s.key
  conflict_at s h =
      let is : IsMeeting stage (length stage) s.key h.m = known_at s.key (Some h.m) h.at in
      let second : IsSecond stage (length stage) h.m.first is.cluster s.key s.b = subst (HasSecond stage (length stage) h.m.first is.cluster s.key) h.second is.second in
      subst (λ (a : ℕ). IsConflict stage a s.b s.key) h.first
      (record { before = second.after; first = is.cluster; second = second.other; at_a = is.at; at_b = second.at; meet = second.meet })

  not_after_any : (s : Spot) (c d : ℕ) (q : Bytes) (m : Meeting) → IsBeaten stage q c d m → Bounds (Some s) (q, m) → IsNotAfter s.a s.b s.key c d q
  not_after_any s c d q m h bound =
      let at : IsNotAfter s.a s.b s.key m.first h.d q = subst (Bounded (Some s) q m.first) h.second bound in
      let low = at.0 in
      let le = h.le in
      let first : s.a ≡ c → s.a ≡ m.first = λ same. omega (arith, low, le, same) in
      let last : s.a ≡ c → m.first ≡ c = λ same. omega (arith, low, le, same) in (
        omega (arith, low, le),
        (
          λ same. let x = at.1.0 (first same) in let y = h.then (last same) in omega (arith, x, y),
          λ same even. at.1.1 (first same) (let x = at.1.0 (first same) in let y = h.then (last same) in omega (arith, x, y, even)),
        ),
      )

  none_before : (q : Bytes) (m : Meeting) (c d : ℕ) → IsBeaten stage q c d m → Bounds None (q, m) → ⊥
  none_before q m c d h bound = subst (Bounded None q m.first) h.second bound

  -- what bounds all that is known bounds each conflict
  module _ (best : Option Spot) (bounds : (q : Bytes) (m : Meeting) → get met q ≡ Some m → Bounds best (q, m)) where
    at_conflict : {P : Type 0} (c d : ℕ) (q : Bytes) → IsConflict stage c d q → ((m : Meeting) → IsBeaten stage q c d m → Bounds best (q, m) → P) → P
    at_conflict {P} c d q conflict f = at (get met q) refl
      where
        at : (o : Option Meeting) → get met q ≡ o → P
        at None e = absurd (not_none stage q c d conflict (known_at q None e))
        at (Some m) e = f m (beaten stage q c d conflict m (known_at q (Some m) e)) (bounds q m e)

  least_by : (best : Option Spot) → IsGood met best → ((q : Bytes) (m : Meeting) → get met q ≡ Some m → Bounds best (q, m)) → IsLeastSpot stage best
  least_by None good bounds = free_from stage (λ a b q conflict. at_conflict None bounds a b q conflict (λ m h bound. none_before q m a b h bound))
  least_by (Some s) good bounds = record {
    conflict = conflict_at s good;
    least = λ c d other conflict. at_conflict (Some s) bounds c d other conflict (λ m h bound. not_after_any s c d other m h bound);
  }

  pub least_known : IsLeastSpot stage (fold lesser_at None (entries met))
  least_known = least_by (fold lesser_at None (entries met)) (best_good met) (best_bounds met)

-- ---- the answer of the code

-- what is known of all clusters of a stage gives its least conflict
pub known_answer : (all clusters : List sets.Cluster) (met : ByKey Meeting) (found : Option Conflict) → clusters ≡ all → AreKnown (envelopes_of clusters) (length clusters) met
    → option_map spot_of found ≡ fold lesser_at None (entries met) → IsLeastSpot (envelopes_of all) (option_map spot_of found)
known_answer all clusters met found same known is =
    let count : length clusters ≡ length (envelopes_of clusters) = sym (length-map clusters (λ (x : sets.Cluster). x.envelopes)) in
    subst (λ (xs : List sets.Cluster). IsLeastSpot (envelopes_of xs) (option_map spot_of found)) same
    (subst (IsLeastSpot (envelopes_of clusters)) (sym is)
    (least_known (envelopes_of clusters) met (subst (λ (n : ℕ). AreKnown (envelopes_of clusters) n met) count known)))

pub some_answer : (stage : Stage) (found : Option Conflict) → IsLeastSpot stage (option_map spot_of found) → IfSome found (λ f. IsLeastConflict stage f.a f.b (key_bytes f.key.now))
some_answer stage None h = tt
some_answer stage (Some f) h = h

pub none_answer : (stage : Stage) (found : Option Conflict) → IsLeastSpot stage (option_map spot_of found) → IfNone found (HasNoConflict stage)
none_answer stage None h = h
none_answer stage (Some f) h = tt
