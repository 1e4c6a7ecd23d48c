-- Numbers with their indices, in rising order.
use Rattle.std.specs.BTreeSet.{BTreeSet, contains}
use Rattle.std.specs.BTreeMap.{is_at}
use Rattle.std.specs.List.{list_any}
use Rattle.std.specs.Ordering.{nat_cmp, ordering_then, is_gt, is_eq}
use Rattle.std.specs.declared.cmp.Ordering.{Ordering}
use Rattle.std.specs.declared.cmp.Ordering.TheVariants.{Less, Equal, Greater}
use Rattle.std.specs.Prelude.{slice_get, ◌==◌, ◌↔◌, nat_lt}
use Rattle.std.proofs.Common.{◌≡◌, ◌⊎◌, inl, inr, ℕ, zero, suc, ◌+◌, ◌<◌, ◌≤◌, Bool, true, false, List, [], ◌∷◌, ◌++◌, length, get_or, set, Some, cond, refl, sym, ap, ap₂, ◌∙◌, arith}
use Rattle.std.proofs.lemmas.Bool.{cases_eq, cases_order}
use Rattle.std.proofs.lemmas.Bool.Decides.{Decides-eqb, Decides-ltb}
use Rattle.std.proofs.lemmas.Option.{slice_get-get_or, get_or_from_slice_get, slice_get_within}
use Rattle.stage_runs.proofs.Lemmas.{cases, never}
use Rattle.set_build.specs.Built.{first_least}
use Rattle.set_build.specs.Known.{size_cmp}
use Rattle.set_build.proofs.Tests.{get_left, get_end, get_cases}
use Rattle.set_build.proofs.Places.{first_least_is}

-- ---- the order of pairs

cmp_less : (x y : ℕ) → x < y → nat_cmp x y ≡ Less
cmp_less x y lt = ap (λ (b : Bool). cond b Less (cond (x == y) Equal Greater)) ((Decides-ltb x y).1 lt)

not_less : (x y : ℕ) → y ≤ x → nat_lt x y ≡ false
not_less x y le = cases (nat_lt x y) (λ t. let lt : x < y = (Decides-ltb x y).0 t in absurd (omega (arith, le, lt))) (λ f. f)

cmp_equal : (x y : ℕ) → x ≡ y → nat_cmp x y ≡ Equal
cmp_equal x y e =
    ap (λ (b : Bool). cond b Less (cond (x == y) Equal Greater)) (not_less x y (omega (arith, e)))
    ∙ ap (λ (b : Bool). cond b Equal Greater) ((Decides-eqb x y).1 e)

cmp_greater : (x y : ℕ) → y < x → nat_cmp x y ≡ Greater
cmp_greater x y gt =
    ap (λ (b : Bool). cond b Less (cond (x == y) Equal Greater)) (not_less x y (omega (arith, gt)))
    ∙ ap (λ (b : Bool). cond b Equal Greater)
    (cases (x == y) (λ t. let e : x ≡ y = (Decides-eqb x y).0 t in absurd (omega (arith, gt, e))) (λ f. f))

abbrev Pair : Type 0
Pair = ℕ × ℕ

-- whether a key of the set is the pair p
abbrev is_pair : Pair → Pair → Bool
is_pair p q = is_at (size_cmp p) q

pair_is : (p q : Pair) → p.0 ≡ q.0 → p.1 ≡ q.1 → is_pair p q ≡ true
pair_is p q a b = ap₂ (λ (x y : Ordering). is_eq (ordering_then x y)) (cmp_equal p.0 q.0 a) (cmp_equal p.1 q.1 b)

pair_from : (p q : Pair) → is_pair p q ≡ true → (p.0 ≡ q.0) × (p.1 ≡ q.1)
pair_from p q h = at (cases_order p.0 q.0) (cases_order p.1 q.1)
  where
    at : (p.0 ≡ q.0) ⊎ ((p.0 < q.0) ⊎ (q.0 < p.0)) → (p.1 ≡ q.1) ⊎ ((p.1 < q.1) ⊎ (q.1 < p.1)) → (p.0 ≡ q.0) × (p.1 ≡ q.1)
    at (inl a) (inl b) = (a, b)
    at (inl a) (inr (inl lt)) = never h (ap₂ (λ (x y : Ordering). is_eq (ordering_then x y)) (cmp_equal p.0 q.0 a) (cmp_less p.1 q.1 lt))
    at (inl a) (inr (inr gt)) = never h (ap₂ (λ (x y : Ordering). is_eq (ordering_then x y)) (cmp_equal p.0 q.0 a) (cmp_greater p.1 q.1 gt))
    at (inr (inl lt)) _ = never h (ap (λ (x : Ordering). is_eq (ordering_then x (nat_cmp p.1 q.1))) (cmp_less p.0 q.0 lt))
    at (inr (inr gt)) _ = never h (ap (λ (x : Ordering). is_eq (ordering_then x (nat_cmp p.1 q.1))) (cmp_greater p.0 q.0 gt))

pair_below : (p q : Pair) → is_gt (size_cmp p q) ≡ false → (p.0 < q.0) ⊎ ((p.0 ≡ q.0) × (p.1 ≤ q.1))
pair_below p q h = at (cases_order p.0 q.0) (cases_order p.1 q.1)
  where
    at : (p.0 ≡ q.0) ⊎ ((p.0 < q.0) ⊎ (q.0 < p.0)) → (p.1 ≡ q.1) ⊎ ((p.1 < q.1) ⊎ (q.1 < p.1)) → (p.0 < q.0) ⊎ ((p.0 ≡ q.0) × (p.1 ≤ q.1))
    at (inl a) (inl b) = inr (a, omega (arith, b))
    at (inl a) (inr (inl lt)) = inr (a, omega (arith, lt))
    at (inl a) (inr (inr gt)) = never (ap₂ (λ (x y : Ordering). is_gt (ordering_then x y)) (cmp_equal p.0 q.0 a) (cmp_greater p.1 q.1 gt)) h
    at (inr (inl lt)) _ = inl lt
    at (inr (inr gt)) _ = never (ap (λ (x : Ordering). is_gt (ordering_then x (nat_cmp p.1 q.1))) (cmp_greater p.0 q.0 gt)) h

-- ---- a number that is written

get_set_same : (xs : List ℕ) (i y : ℕ) → i < length xs → slice_get (set xs i y) i ≡ Some y
get_set_same [] i y lt = absurd (omega arith)
get_set_same (x ∷ xs) zero y lt = refl
get_set_same (x ∷ xs) (suc i) y lt = get_set_same xs i y (omega arith)

get_set_other : (xs : List ℕ) (i j y : ℕ) → (j ≡ i → ⊥) → slice_get (set xs i y) j ≡ slice_get xs j
get_set_other [] i j y other = refl
get_set_other (x ∷ xs) zero zero y other = absurd (other refl)
get_set_other (x ∷ xs) zero (suc j) y other = refl
get_set_other (x ∷ xs) (suc i) zero y other = refl
get_set_other (x ∷ xs) (suc i) (suc j) y other = get_set_other xs i j y (λ e. other (ap suc e))

-- ---- what the set has

-- the set has the pairs of these numbers and their indices
abbrev pub Ranks : List ℕ → (Pair → Bool) → Type 0
Ranks counts has = (p : Pair) → (has p ≡ true) ↔ (slice_get counts p.1 ≡ Some p.0)

-- the pairs after one of them is put in or taken out
abbrev pub Puts : Pair → Bool → (Pair → Bool) → (Pair → Bool) → Type 0
Puts pair there old new = (q : Pair) → new q ≡ cond (is_pair pair q) there (old q)

some_is : {A : Type 0} (x y : A) → Some x ≡ Some y → x ≡ y
some_is x y e = cc

pub ranks_push : (counts : List ℕ) (old new : Pair → Bool) → Ranks counts old → Puts (1, length counts) true old new → Ranks (counts ++ 1 ∷ []) new
ranks_push counts old new h puts p = (to, from)
  where
    added : Pair
    added = (1, length counts)

    to : new p ≡ true → slice_get (counts ++ 1 ∷ []) p.1 ≡ Some p.0
    to t = at (is_pair (1, length counts) p) refl
      where
        at : (b : Bool) → is_pair (1, length counts) p ≡ b → slice_get (counts ++ 1 ∷ []) p.1 ≡ Some p.0
        at true is =
            let same = pair_from (1, length counts) p is in
            ap (slice_get (counts ++ 1 ∷ [])) (sym same.1) ∙ get_end counts 1 ∙ ap (λ (n : ℕ). Some n) same.0
        at false is =
            let found = (h p).0 (sym (puts p ∙ ap (λ (b : Bool). cond b true (old p)) is) ∙ t) in
            get_left counts 1 p.1 (slice_get_within counts p.1 p.0 found) ∙ found

    from : slice_get (counts ++ 1 ∷ []) p.1 ≡ Some p.0 → new p ≡ true
    from e =
        get_cases counts 1 p.1 p.0 e
        (λ lt found. puts p ∙ ap (cond (is_pair (1, length counts) p) true) ((h p).1 found) ∙ either (is_pair (1, length counts) p))
        (λ end one. puts p ∙ ap (λ (b : Bool). cond b true (old p)) (pair_is (1, length counts) p one (sym end)))
      where
        either : (b : Bool) → cond b true true ≡ true
        either true = refl
        either false = refl

pub ranks_grow : (counts : List ℕ) (i : ℕ) (old mid new : Pair → Bool) → i < length counts → Ranks counts old → Puts (get_or counts i 0, i) false old mid
    → Puts (get_or counts i 0 + 1, i) true mid new → Ranks (set counts i (get_or counts i 0 + 1)) new
ranks_grow counts i old mid new lt h takes puts p = (to, from)
  where
    to : new p ≡ true → slice_get (set counts i (get_or counts i 0 + 1)) p.1 ≡ Some p.0
    to t = at (is_pair (get_or counts i 0 + 1, i) p) refl
      where
        kept : mid p ≡ true → slice_get (set counts i (get_or counts i 0 + 1)) p.1 ≡ Some p.0
        kept m = by (is_pair (get_or counts i 0, i) p) refl
          where
            by : (b : Bool) → is_pair (get_or counts i 0, i) p ≡ b → slice_get (set counts i (get_or counts i 0 + 1)) p.1 ≡ Some p.0
            by true is = never m (takes p ∙ ap (λ (b : Bool). cond b false (old p)) is)
            by false is =
                let found = (h p).0 (sym (takes p ∙ ap (λ (b : Bool). cond b false (old p)) is) ∙ m) in
                get_set_other counts i p.1 (get_or counts i 0 + 1)
                (λ same. never (pair_is (get_or counts i 0, i) p (ap (λ (n : ℕ). get_or counts n 0) (sym same) ∙ get_or_from_slice_get counts p.1 p.0 0 found) (sym same)) is)
                ∙ found

        at : (b : Bool) → is_pair (get_or counts i 0 + 1, i) p ≡ b → slice_get (set counts i (get_or counts i 0 + 1)) p.1 ≡ Some p.0
        at true is =
            let same = pair_from (get_or counts i 0 + 1, i) p is in
            ap (slice_get (set counts i (get_or counts i 0 + 1))) (sym same.1) ∙ get_set_same counts i (get_or counts i 0 + 1) lt ∙ ap (λ (n : ℕ). Some n) same.0
        at false is = kept (sym (puts p ∙ ap (λ (b : Bool). cond b true (mid p)) is) ∙ t)

    from : slice_get (set counts i (get_or counts i 0 + 1)) p.1 ≡ Some p.0 → new p ≡ true
    from e = at (cases_eq p.1 i)
      where
        either : (b : Bool) → cond b true true ≡ true
        either true = refl
        either false = refl

        apart : (p.1 ≡ i → ⊥) → is_pair (get_or counts i 0, i) p ≡ false
        apart other = cases (is_pair (get_or counts i 0, i) p) (λ t. absurd (other (sym (pair_from (get_or counts i 0, i) p t).1))) (λ f. f)

        at : (p.1 ≡ i) ⊎ (p.1 ≡ i → ⊥) → new p ≡ true
        at (inl same) =
            let grown : get_or counts i 0 + 1 ≡ p.0 =
            some_is (get_or counts i 0 + 1) p.0
            (sym (get_set_same counts i (get_or counts i 0 + 1) lt) ∙ ap (slice_get (set counts i (get_or counts i 0 + 1))) (sym same) ∙ e) in
            puts p ∙ ap (λ (b : Bool). cond b true (mid p)) (pair_is (get_or counts i 0 + 1, i) p grown (sym same))
        at (inr other) =
            let found : slice_get counts p.1 ≡ Some p.0 = sym (get_set_other counts i p.1 (get_or counts i 0 + 1) other) ∙ e in
            let stays : mid p ≡ true = takes p ∙ ap (λ (b : Bool). cond b false (old p)) (apart other) ∙ (h p).1 found in
            puts p ∙ ap (cond (is_pair (get_or counts i 0 + 1, i) p) true) stays ∙ either (is_pair (get_or counts i 0 + 1, i) p)

-- the least pair has the index of the first of the least numbers
pub ranks_least : (counts : List ℕ) (has : Pair → Bool) (p : Pair) → Ranks counts has → has p ≡ true → ((q : Pair) → has q ≡ true → is_gt (size_cmp p q) ≡ false)
    → first_least counts ≡ p.1
ranks_least counts has p h member least = first_least_is counts p.1 (slice_get_within counts p.1 p.0 found) below first
  where
    found : slice_get counts p.1 ≡ Some p.0
    found = (h p).0 member

    count : get_or counts p.1 0 ≡ p.0
    count = get_or_from_slice_get counts p.1 p.0 0 found

    compared : (j : ℕ) → j < length counts → (p.0 < get_or counts j 0) ⊎ ((p.0 ≡ get_or counts j 0) × (p.1 ≤ j))
    compared j lt = pair_below p (get_or counts j 0, j) (least (get_or counts j 0, j) ((h (get_or counts j 0, j)).1 (slice_get-get_or counts j 0 lt)))

    below : (j : ℕ) → j < length counts → get_or counts p.1 0 ≤ get_or counts j 0
    below j lt = at (compared j lt)
      where
        at : (p.0 < get_or counts j 0) ⊎ ((p.0 ≡ get_or counts j 0) × (p.1 ≤ j)) → get_or counts p.1 0 ≤ get_or counts j 0
        at (inl less) = omega (arith, count, less)
        at (inr k) = let e = k.0 in omega (arith, count, e)

    first : (j : ℕ) → j < p.1 → get_or counts p.1 0 < get_or counts j 0
    first j lt = at (compared j (let w : p.1 < length counts = slice_get_within counts p.1 p.0 found in omega (arith, w, lt)))
      where
        at : (p.0 < get_or counts j 0) ⊎ ((p.0 ≡ get_or counts j 0) × (p.1 ≤ j)) → get_or counts p.1 0 < get_or counts j 0
        at (inl less) = omega (arith, count, less)
        at (inr k) = let le = k.1 in absurd (omega (arith, le, lt))

-- a set of pairs of some numbers is not empty
pub ranks_some : (counts : List ℕ) (s : BTreeSet Pair) → Ranks counts (contains size_cmp s) → 0 < length counts → 0 < length s.keys
ranks_some counts s h some = at s.keys ((h (get_or counts 0 0, 0)).1 (slice_get-get_or counts 0 0 some))
  where
    at : (keys : List Pair) → list_any (is_at (size_cmp (get_or counts 0 0, 0))) keys ≡ true → 0 < length keys
    at [] e = absurd cc
    at (k ∷ keys) e = omega arith
