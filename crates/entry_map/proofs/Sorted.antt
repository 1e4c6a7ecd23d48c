-- Sorted entries around one key: those below it, perhaps one at it, and those above it.
use Rattle.std.specs.Prelude.{not}
use Rattle.std.specs.List.{AllByRecursion}
use Rattle.std.specs.declared.cmp.Ordering.{Ordering}
use Rattle.std.specs.declared.cmp.Ordering.TheVariants.{Less, Equal, Greater}
use Rattle.std.specs.Ordering.{nat_cmp, is_lt, eq_by_cmp, ordering_reverse}
use Rattle.std.specs.Cmp.Lexicographic.{slice_cmp, nat_list_cmp_total}
use Rattle.std.specs.FinMap.{is_sorted, find, put, slice_cmp-IsAntisymmetric, nat_cmp-IsAntisymmetric, IsAntisymmetric}
use Rattle.std.specs.FinMap.Entries.{below_all, where_key}
use Rattle.std.proofs.Common.{◌≡◌, ℕ, Bool, true, false, ◌&&◌, List, [], ◌∷◌, ◌++◌, Some, None, refl, ap, subst, ◌∙◌}
use Rattle.std.proofs.lemmas.List.{map-append}
use Rattle.ledger_spec.specs.declared.Kept.{Kept}
use Rattle.entry_map.specs.Entries.{Boxed, kept_of, own_key, pair_of, pairs_of, AreSorted}
use Rattle.entry_map.specs.Rows.{AreBelow, AreAbove}

abbrev pub Pair : Type 0
Pair = List ℕ × Kept

abbrev pub order : List ℕ → List ℕ → Ordering
order a b = slice_cmp nat_cmp a b

pub antisymmetric : IsAntisymmetric order
antisymmetric = slice_cmp-IsAntisymmetric nat_cmp-IsAntisymmetric

first_of_two : (a b : Bool) → (a && b) ≡ true → a ≡ true
first_of_two true b e = refl
first_of_two false b e = e

second_of_two : (a b : Bool) → (a && b) ≡ true → b ≡ true
second_of_two true b e = e
second_of_two false b e = cc

both_of_two : (a b : Bool) → a ≡ true → b ≡ true → (a && b) ≡ true
both_of_two true b p q = q
both_of_two false b p q = cc

less_from : (o : Ordering) → is_lt o ≡ true → o ≡ Less
less_from Less e = refl
less_from Equal e = cc
less_from Greater e = cc

pub pairs_append : (xs ys : List Boxed) → pairs_of (xs ++ ys) ≡ pairs_of xs ++ pairs_of ys
pairs_append xs ys = map-append pair_of xs ys

-- ---- of all

pub all_append : {A : Type 0} (P : A → Type 0) (xs ys : List A) → AllByRecursion P xs → AllByRecursion P ys → AllByRecursion P (xs ++ ys)
all_append P [] ys h k = k
all_append P (x ∷ xs) ys h k = (h.0, all_append P xs ys h.1 k)

pub all_left : {A : Type 0} (P : A → Type 0) (xs ys : List A) → AllByRecursion P (xs ++ ys) → AllByRecursion P xs
all_left P [] ys h = tt
all_left P (x ∷ xs) ys h = (h.0, all_left P xs ys h.1)

pub all_right : {A : Type 0} (P : A → Type 0) (xs ys : List A) → AllByRecursion P (xs ++ ys) → AllByRecursion P ys
all_right P [] ys h = h
all_right P (x ∷ xs) ys h = all_right P xs ys h.1

all_more : {A : Type 0} (P Q : A → Type 0) → ((x : A) → P x → Q x) → (xs : List A) → AllByRecursion P xs → AllByRecursion Q xs
all_more P Q f [] h = tt
all_more P Q f (x ∷ xs) h = (f x h.0, all_more P Q f xs h.1)

-- ---- what an order says the other way round

pub less_turned : (a b : List ℕ) → order a b ≡ Greater → order b a ≡ Less
less_turned a b e = nat_list_cmp_total.antisymm b a ∙ ap ordering_reverse e

pub greater_turned : (a b : List ℕ) → order a b ≡ Less → order b a ≡ Greater
greater_turned a b e = nat_list_cmp_total.antisymm b a ∙ ap ordering_reverse e

pub equal_turned : (a b : List ℕ) → order a b ≡ Equal → order b a ≡ Equal
equal_turned a b e = nat_list_cmp_total.antisymm b a ∙ ap ordering_reverse e

-- ---- parts of sorted entries

tail_sorted : (e : Boxed) (es : List Boxed) → AreSorted (pairs_of (e ∷ es)) → AreSorted (pairs_of es)
tail_sorted e es s = second_of_two (below_all order (own_key e) (pairs_of es)) (is_sorted order (pairs_of es)) s

head_below : (e : Boxed) (es : List Boxed) → AreSorted (pairs_of (e ∷ es)) → below_all order (own_key e) (pairs_of es) ≡ true
head_below e es s = first_of_two (below_all order (own_key e) (pairs_of es)) (is_sorted order (pairs_of es)) s

mid_below : (k : List ℕ) (bs : List Boxed) (x : Boxed) (ts : List Boxed) → below_all order k (pairs_of (bs ++ x ∷ ts)) ≡ true → order k (own_key x) ≡ Less
mid_below k [] x ts h = less_from (order k (own_key x)) (first_of_two (is_lt (order k (own_key x))) (below_all order k (pairs_of ts)) h)
mid_below k (b ∷ bs) x ts h = mid_below k bs x ts (second_of_two (is_lt (order k (own_key b))) (below_all order k (pairs_of (bs ++ x ∷ ts))) h)

all_above : (k : List ℕ) (es : List Boxed) → below_all order k (pairs_of es) ≡ true → AreAbove k es
all_above k [] h = tt
all_above k (e ∷ es) h = (
  less_from (order k (own_key e)) (first_of_two (is_lt (order k (own_key e))) (below_all order k (pairs_of es)) h),
  all_above k es (second_of_two (is_lt (order k (own_key e))) (below_all order k (pairs_of es)) h),
)

below_left : (k : List ℕ) (xs ys : List Boxed) → below_all order k (pairs_of (xs ++ ys)) ≡ true → below_all order k (pairs_of xs) ≡ true
below_left k [] ys h = refl
below_left k (x ∷ xs) ys h =
    both_of_two (is_lt (order k (own_key x))) (below_all order k (pairs_of xs))
    (first_of_two (is_lt (order k (own_key x))) (below_all order k (pairs_of (xs ++ ys))) h)
    (below_left k xs ys (second_of_two (is_lt (order k (own_key x))) (below_all order k (pairs_of (xs ++ ys))) h))

pub sorted_left : (xs ys : List Boxed) → AreSorted (pairs_of (xs ++ ys)) → AreSorted (pairs_of xs)
sorted_left [] ys s = refl
sorted_left (x ∷ xs) ys s =
    both_of_two (below_all order (own_key x) (pairs_of xs)) (is_sorted order (pairs_of xs))
    (below_left (own_key x) xs ys (head_below x (xs ++ ys) s)) (sorted_left xs ys (tail_sorted x (xs ++ ys) s))

pub sorted_right : (xs ys : List Boxed) → AreSorted (pairs_of (xs ++ ys)) → AreSorted (pairs_of ys)
sorted_right [] ys s = s
sorted_right (x ∷ xs) ys s = sorted_right xs ys (tail_sorted x (xs ++ ys) s)

-- the entries before one are below its key
pub low_side : (bs : List Boxed) (x : Boxed) (ts : List Boxed) → AreSorted (pairs_of (bs ++ x ∷ ts)) → AreBelow (own_key x) bs
low_side [] x ts s = tt
low_side (b ∷ bs) x ts s = (mid_below (own_key b) bs x ts (head_below b (bs ++ x ∷ ts) s), low_side bs x ts (tail_sorted b (bs ++ x ∷ ts) s))

-- those after it are above
pub high_side : (bs : List Boxed) (x : Boxed) (ts : List Boxed) → AreSorted (pairs_of (bs ++ x ∷ ts)) → AreAbove (own_key x) ts
high_side [] x ts s = all_above (own_key x) ts (head_below x ts s)
high_side (b ∷ bs) x ts s = high_side bs x ts (tail_sorted b (bs ++ x ∷ ts) s)

-- ---- other bytes than the key of an entry

pub through_less : (q : List ℕ) (bs : List Boxed) (x : Boxed) → order (own_key x) q ≡ Less → AreBelow (own_key x) bs → AreBelow q bs
through_less q bs x lt h =
    all_more (λ (e : Boxed). order (own_key e) (own_key x) ≡ Less) (λ (e : Boxed). order (own_key e) q ≡ Less)
    (λ (e : Boxed) (l : order (own_key e) (own_key x) ≡ Less). nat_list_cmp_total.trans (own_key e) (own_key x) q l lt) bs h

pub through_greater : (q : List ℕ) (ts : List Boxed) (x : Boxed) → order (own_key x) q ≡ Greater → AreAbove (own_key x) ts → AreAbove q ts
through_greater q ts x gt h =
    all_more (λ (e : Boxed). order (own_key x) (own_key e) ≡ Less) (λ (e : Boxed). order q (own_key e) ≡ Less)
    (λ (e : Boxed) (l : order (own_key x) (own_key e) ≡ Less). nat_list_cmp_total.trans q (own_key x) (own_key e) (less_turned (own_key x) q gt) l) ts h

pub through_equal : (q : List ℕ) (ts : List Boxed) (x : Boxed) → order (own_key x) q ≡ Equal → AreAbove (own_key x) ts → AreAbove q ts
through_equal q ts x eq h = subst (λ (k : List ℕ). AreAbove k ts) (antisymmetric (own_key x) q eq) h

pub below_equal : (q : List ℕ) (bs : List Boxed) (x : Boxed) → order (own_key x) q ≡ Equal → AreBelow (own_key x) bs → AreBelow q bs
below_equal q bs x eq h = subst (λ (k : List ℕ). AreBelow k bs) (antisymmetric (own_key x) q eq) h

above_by : (q : List ℕ) (ts : List Boxed) (x : Boxed) (o : Ordering) → order (own_key x) q ≡ o → is_lt o ≡ false → AreAbove (own_key x) ts → AreAbove q ts
above_by q ts x Less e n h = cc
above_by q ts x Equal e n h = through_equal q ts x e h
above_by q ts x Greater e n h = through_greater q ts x e h

pub through_not_less : (q : List ℕ) (ts : List Boxed) (x : Boxed) → is_lt (order (own_key x) q) ≡ false → AreAbove (own_key x) ts → AreAbove q ts
through_not_less q ts x n h = above_by q ts x (order (own_key x) q) refl n h

-- an entry below these bytes, with those before it
pub with_below : (q : List ℕ) (bs : List Boxed) (x : Boxed) (ts : List Boxed) → AreSorted (pairs_of (bs ++ x ∷ ts)) → order (own_key x) q ≡ Less → AreBelow q (bs ++ x ∷ [])
with_below q bs x ts s lt =
    all_append (λ (e : Boxed). order (own_key e) q ≡ Less) bs (x ∷ []) (through_less q bs x lt (low_side bs x ts s)) (lt, tt)

-- an entry above them, with those after it
pub with_above : (q : List ℕ) (bs : List Boxed) (x : Boxed) (ts : List Boxed) → AreSorted (pairs_of (bs ++ x ∷ ts)) → order (own_key x) q ≡ Greater → AreAbove q (x ∷ ts)
with_above q bs x ts s gt = (less_turned (own_key x) q gt, through_greater q ts x gt (high_side bs x ts s))

-- ---- what a map finds, puts and removes there

abbrev pub passes : List ℕ → List ℕ → Bool
passes q x = not (eq_by_cmp order q x)

pub find_gap : (q : List ℕ) (bs ts : List Boxed) → AreBelow q bs → AreAbove q ts → find order q (pairs_of (bs ++ ts)) ≡ None
find_gap q [] [] b a = refl
find_gap q [] (x ∷ ts) b a = rw a.0 (find_gap q [] ts tt a.1)
find_gap q (x ∷ bs) ts b a = rw (greater_turned (own_key x) q b.0) (find_gap q bs ts b.1 a)

pub find_entry : (q : List ℕ) (bs : List Boxed) (x : Boxed) (ts : List Boxed) → AreBelow q bs → order (own_key x) q ≡ Equal → find order q (pairs_of (bs ++ x ∷ ts)) ≡ Some (kept_of x)
find_entry q [] x ts b e = rw (equal_turned (own_key x) q e) refl
find_entry q (y ∷ bs) x ts b e = rw (greater_turned (own_key y) q b.0) (find_entry q bs x ts b.1 e)

pub put_gap : (q : List ℕ) (v : Kept) (bs ts : List Boxed) → AreBelow q bs → AreAbove q ts → put order q v (pairs_of (bs ++ ts)) ≡ pairs_of bs ++ (q, v) ∷ pairs_of ts
put_gap q v [] [] b a = refl
put_gap q v [] (x ∷ ts) b a = rw a.0 refl
put_gap q v (x ∷ bs) ts b a = rw (greater_turned (own_key x) q b.0) (ap (λ (r : List Pair). pair_of x ∷ r) (put_gap q v bs ts b.1 a))

pub put_entry : (q : List ℕ) (v : Kept) (bs : List Boxed) (x : Boxed) (ts : List Boxed) → AreBelow q bs → order (own_key x) q ≡ Equal
    → put order q v (pairs_of (bs ++ x ∷ ts)) ≡ pairs_of bs ++ (own_key x, v) ∷ pairs_of ts
put_entry q v [] x ts b e = rw (equal_turned (own_key x) q e) refl
put_entry q v (y ∷ bs) x ts b e = rw (greater_turned (own_key y) q b.0) (ap (λ (r : List Pair). pair_of y ∷ r) (put_entry q v bs x ts b.1 e))

pub where_gap : (q : List ℕ) (bs ts : List Boxed) → AreBelow q bs → AreAbove q ts → where_key order (passes q) (pairs_of (bs ++ ts)) ≡ pairs_of bs ++ pairs_of ts
where_gap q [] [] b a = refl
where_gap q [] (x ∷ ts) b a = rw a.0 (ap (λ (r : List Pair). pair_of x ∷ r) (where_gap q [] ts tt a.1))
where_gap q (x ∷ bs) ts b a = rw (greater_turned (own_key x) q b.0) (ap (λ (r : List Pair). pair_of x ∷ r) (where_gap q bs ts b.1 a))

pub where_entry : (q : List ℕ) (bs : List Boxed) (x : Boxed) (ts : List Boxed) → AreBelow q bs → order (own_key x) q ≡ Equal → AreAbove q ts
    → where_key order (passes q) (pairs_of (bs ++ x ∷ ts)) ≡ pairs_of bs ++ pairs_of ts
where_entry q [] x ts b e a = rw (equal_turned (own_key x) q e) (where_gap q [] ts tt a)
where_entry q (y ∷ bs) x ts b e a = rw (greater_turned (own_key y) q b.0) (ap (λ (r : List Pair). pair_of y ∷ r) (where_entry q bs x ts b.1 e a))
