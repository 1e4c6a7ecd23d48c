-- Lists of keys that rise by their XDR bytes.
use Rattle.std.specs.declared.cmp.Ordering.{Ordering}
use Rattle.std.specs.declared.cmp.Ordering.TheVariants.{Less, Equal, Greater}
use Rattle.std.specs.Ordering.{is_eq, match_ordering, ordering_reverse}
use Rattle.std.specs.Cmp.{IsTotalOrder}
use Rattle.std.specs.List.{All, AllByRecursion, fold}
use Rattle.std.specs.List.Sorted.{IsStrictlySortedBy}
use Rattle.std.specs.Str.{bytes_eq}
use Rattle.std.specs.FinMap.{slice_cmp-IsAntisymmetric, nat_cmp-IsAntisymmetric}
use Rattle.std.specs.BTreeSet.{insert_key}
use Rattle.std.proofs.Common.{◌≡◌, Bool, true, false, ◌||◌, List, [], ◌∷◌, ◌++◌, refl, sym, ap, ap₂, ◌∙◌}
use Rattle.std.proofs.lemmas.Bool.{false_from_ne_true}
use Rattle.std.proofs.lemmas.Cmp.{on_total, nat_list_cmp_total}
use Rattle.std.proofs.lemmas.List.Elements.{All-head, All-tail, All-nil}
use Rattle.std.proofs.lemmas.List.Folds.{list_any-append}
use Rattle.std.proofs.lemmas.Map.Text.{is_eq-slice_cmp}
use Rattle.std.proofs.lemmas.Map.Views.{All-insert_key}
use Rattle.std.proofs.lemmas.Slice.Eq.{bytes_eq-Decides}
use Rattle.stage_runs.specs.Maps.{Bytes, LedgerKey, key_bytes, has_bytes}
use Rattle.stage_runs.specs.Whole.{has_twice}
use Rattle.stage_runs.proofs.Lemmas.{both_false, cases, left_false, left_true, never, one_true, right_false, right_true}
use Rattle.apply_spec.specs.Recorded.{bytes_cmp, rising, AreRising}

-- ---- equal bytes

pub same_bytes : (b : Bytes) → bytes_eq b b ≡ true
same_bytes b = (bytes_eq-Decides b b).1 refl

pub bytes_from : (a b : Bytes) → bytes_eq a b ≡ true → a ≡ b
bytes_from a b e = (bytes_eq-Decides a b).0 e

pub bytes_apart : (a b : Bytes) → bytes_eq a b ≡ false → bytes_eq b a ≡ false
bytes_apart a b e = false_from_ne_true (bytes_eq b a) (λ is. never ((bytes_eq-Decides a b).1 (sym (bytes_from b a is))) e)

-- ---- the order

total : IsTotalOrder bytes_cmp
total = on_total key_bytes nat_list_cmp_total

equal_bytes : (x y : LedgerKey) → bytes_cmp x y ≡ Equal → key_bytes x ≡ key_bytes y
equal_bytes x y e = slice_cmp-IsAntisymmetric nat_cmp-IsAntisymmetric (key_bytes x) (key_bytes y) e

back : (x y : LedgerKey) → bytes_cmp y x ≡ Greater → bytes_cmp x y ≡ Less
back x y e = total.antisymm x y ∙ ap ordering_reverse e

less_apart : (x y : LedgerKey) → bytes_cmp x y ≡ Less → bytes_eq (key_bytes x) (key_bytes y) ≡ false
less_apart x y e = sym (is_eq-slice_cmp (key_bytes x) (key_bytes y)) ∙ ap is_eq e

-- each key of the list is above
abbrev AreAbove : LedgerKey → List LedgerKey → Type 0
AreAbove z keys = AllByRecursion (λ y. bytes_cmp z y ≡ Less) keys

above_more : (z k : LedgerKey) (keys : List LedgerKey) → bytes_cmp z k ≡ Less → AreAbove k keys → AreAbove z keys
above_more z k [] e h = tt
above_more z k (x ∷ keys) e h = (total.trans z k x e h.0, above_more z k keys e h.1)

above_has : (z : LedgerKey) (keys : List LedgerKey) → AreAbove z keys → has_bytes keys (key_bytes z) ≡ false
above_has z [] h = refl
above_has z (x ∷ keys) h = both_false (bytes_eq (key_bytes z) (key_bytes x)) (has_bytes keys (key_bytes z)) (less_apart z x h.0) (above_has z keys h.1)

-- ---- one key more

-- tests in another order
pub join_three : (k x h : Bool) → (x || (k || h)) ≡ (k || (x || h))
join_three true true h = refl
join_three true false h = refl
join_three false x h = refl

-- a test that stands twice
pub join_same : (k x h : Bool) → k ≡ x → (x || h) ≡ (k || (x || h))
join_same true x h e = left_true x h (sym e)
join_same false x h e = refl

pub has_inserted : (k : LedgerKey) (keys : List LedgerKey) (q : Bytes)
    → has_bytes (insert_key bytes_cmp keys k) q ≡ (bytes_eq q (key_bytes k) || has_bytes keys q)
has_inserted k [] q = refl
has_inserted k (x ∷ keys) q = at (bytes_cmp k x) refl (has_inserted k keys q)
  where
    at : (o : Ordering) → bytes_cmp k x ≡ o → has_bytes (insert_key bytes_cmp keys k) q ≡ (bytes_eq q (key_bytes k) || has_bytes keys q)
        → has_bytes (match_ordering o (k ∷ x ∷ keys) (x ∷ keys) (x ∷ insert_key bytes_cmp keys k)) q
        ≡ (bytes_eq q (key_bytes k) || (bytes_eq q (key_bytes x) || has_bytes keys q))
    at Less e r = refl
    at Equal e r = join_same (bytes_eq q (key_bytes k)) (bytes_eq q (key_bytes x)) (has_bytes keys q) (ap (bytes_eq q) (equal_bytes k x e))
    at Greater e r =
        ap (λ (b : Bool). bytes_eq q (key_bytes x) || b) r ∙ join_three (bytes_eq q (key_bytes k)) (bytes_eq q (key_bytes x)) (has_bytes keys q)

inserted_above : (z k : LedgerKey) (keys : List LedgerKey) → bytes_cmp z k ≡ Less → AreAbove z keys → AreAbove z (insert_key bytes_cmp keys k)
inserted_above z k [] e h = (e, tt)
inserted_above z k (x ∷ keys) e h = at (bytes_cmp k x) (inserted_above z k keys e h.1)
  where
    at : (o : Ordering) → AreAbove z (insert_key bytes_cmp keys k)
        → AreAbove z (match_ordering o (k ∷ x ∷ keys) (x ∷ keys) (x ∷ insert_key bytes_cmp keys k))
    at Less r = (e, h)
    at Equal r = h
    at Greater r = (h.0, r)

pub inserted_rising : (k : LedgerKey) (keys : List LedgerKey) → AreRising keys → AreRising (insert_key bytes_cmp keys k)
unfolding IsStrictlySortedBy
inserted_rising k [] h = (tt, tt)
inserted_rising k (x ∷ keys) h = at (bytes_cmp k x) refl (inserted_rising k keys h.1)
  where
    at : (o : Ordering) → bytes_cmp k x ≡ o → AreRising (insert_key bytes_cmp keys k)
        → AreRising (match_ordering o (k ∷ x ∷ keys) (x ∷ keys) (x ∷ insert_key bytes_cmp keys k))
    at Less e r = ((e, above_more k x keys e h.0), h)
    at Equal e r = h
    at Greater e r = (inserted_above x k keys (back x k e) h.0, r)

-- ---- all keys of a list

join_last : (h k a : Bool) → (h || (k || a)) ≡ ((k || h) || a)
join_last true true a = refl
join_last true false a = refl
join_last false true a = refl
join_last false false a = refl

has_all : (keys those : List LedgerKey) (q : Bytes) → has_bytes (fold (insert_key bytes_cmp) those keys) q ≡ (has_bytes keys q || has_bytes those q)
has_all [] those q = refl
has_all (k ∷ keys) those q =
    has_all keys (insert_key bytes_cmp those k) q
    ∙ ap (λ (b : Bool). has_bytes keys q || b) (has_inserted k those q)
    ∙ join_last (has_bytes keys q) (bytes_eq q (key_bytes k)) (has_bytes those q)

all_rising : (keys those : List LedgerKey) → AreRising those → AreRising (fold (insert_key bytes_cmp) those keys)
all_rising [] those h = h
all_rising (k ∷ keys) those h = all_rising keys (insert_key bytes_cmp those k) (inserted_rising k those h)

all_of : (P : LedgerKey → Type 0) (keys those : List LedgerKey) → All P keys → All P those → All P (fold (insert_key bytes_cmp) those keys)
all_of P [] those h g = g
all_of P (k ∷ keys) those h g =
    all_of P keys (insert_key bytes_cmp those k) (All-tail P k keys h) (All-insert_key bytes_cmp k P those g (All-head P k keys h))

or_none : (b : Bool) → (b || false) ≡ b
or_none true = refl
or_none false = refl

pub has_rising : (keys : List LedgerKey) (q : Bytes) → has_bytes (rising keys) q ≡ has_bytes keys q
has_rising keys q = has_all keys [] q ∙ or_none (has_bytes keys q)

pub are_rising : (keys : List LedgerKey) → AreRising (rising keys)
unfolding IsStrictlySortedBy
are_rising keys = all_rising keys [] tt

pub all_rising_of : (P : LedgerKey → Type 0) (keys : List LedgerKey) → All P keys → All P (rising keys)
all_rising_of P keys h = all_of P keys [] h (All-nil P)

-- ---- no key twice

pub rising_once : (keys : List LedgerKey) → AreRising keys → has_twice keys ≡ false
unfolding IsStrictlySortedBy
rising_once [] h = refl
rising_once (k ∷ keys) h = both_false (has_bytes keys (key_bytes k)) (has_twice keys) (above_has k keys h.0) (rising_once keys h.1)

-- two lists without a common key
pub joined_once : (xs ys : List LedgerKey) → has_twice xs ≡ false → has_twice ys ≡ false → ((q : Bytes) → has_bytes xs q ≡ true → has_bytes ys q ≡ false)
    → has_twice (xs ++ ys) ≡ false
joined_once [] ys f g apart = g
joined_once (x ∷ xs) ys f g apart =
    both_false (has_bytes (xs ++ ys) (key_bytes x)) (has_twice (xs ++ ys))
    (list_any-append (λ (k : LedgerKey). bytes_eq (key_bytes x) (key_bytes k)) xs ys
    ∙ both_false (has_bytes xs (key_bytes x)) (has_bytes ys (key_bytes x)) (left_false (has_bytes xs (key_bytes x)) (has_twice xs) f)
    (apart (key_bytes x) (left_true (bytes_eq (key_bytes x) (key_bytes x)) (has_bytes xs (key_bytes x)) (same_bytes (key_bytes x)))))
    (joined_once xs ys (right_false (has_bytes xs (key_bytes x)) (has_twice xs) f) g
    (λ q e. apart q (right_true (bytes_eq q (key_bytes x)) (has_bytes xs q) e)))

-- and the other way round
pub once_apart : (xs ys : List LedgerKey) → has_twice (xs ++ ys) ≡ false → (q : Bytes) → has_bytes xs q ≡ true → has_bytes ys q ≡ false
once_apart [] ys f q e = never e refl
once_apart (x ∷ xs) ys f q e =
    one_true (bytes_eq q (key_bytes x)) (has_bytes xs q) e
    (λ is. ap (has_bytes ys) (bytes_from q (key_bytes x) is)
    ∙ right_false (has_bytes xs (key_bytes x)) (has_bytes ys (key_bytes x))
    (sym (list_any-append (λ (k : LedgerKey). bytes_eq (key_bytes x) (key_bytes k)) xs ys)
    ∙ left_false (has_bytes (xs ++ ys) (key_bytes x)) (has_twice (xs ++ ys)) f))
    (λ later. once_apart xs ys (right_false (has_bytes (xs ++ ys) (key_bytes x)) (has_twice (xs ++ ys)) f) q later)

-- ---- lists that rise and have the same keys

tails_same : (a b c d : Bool) → (a || b) ≡ (c || d) → a ≡ false → c ≡ false → b ≡ d
tails_same true b c d e f g = cc
tails_same false b true d e f g = cc
tails_same false b false d e f g = e

-- In the tails of two lists that begin with one key, the same keys are left.
tails_have : (x y : LedgerKey) (xs ys : List LedgerKey) → key_bytes x ≡ key_bytes y → AreAbove x xs → AreAbove y ys
    → ((q : Bytes) → has_bytes (x ∷ xs) q ≡ has_bytes (y ∷ ys) q) → (q : Bytes) → has_bytes xs q ≡ has_bytes ys q
tails_have x y xs ys same h g e q =
    cases (bytes_eq q (key_bytes x))
    (λ is. let at : q ≡ key_bytes x = bytes_from q (key_bytes x) is in
    ap (has_bytes xs) at ∙ above_has x xs h ∙ sym (ap (has_bytes ys) (at ∙ same) ∙ above_has y ys g))
    (λ is. tails_same (bytes_eq q (key_bytes x)) (has_bytes xs q) (bytes_eq q (key_bytes y)) (has_bytes ys q) (e q) is (ap (bytes_eq q) (sym same) ∙ is))

first_has : (x : LedgerKey) (xs : List LedgerKey) → has_bytes (x ∷ xs) (key_bytes x) ≡ true
first_has x xs = left_true (bytes_eq (key_bytes x) (key_bytes x)) (has_bytes xs (key_bytes x)) (same_bytes (key_bytes x))

below_lacks : (x y : LedgerKey) (ys : List LedgerKey) → bytes_cmp x y ≡ Less → AreAbove y ys → has_bytes (y ∷ ys) (key_bytes x) ≡ false
below_lacks x y ys e h = above_has x (y ∷ ys) (e, above_more x y ys e h)

pub same_rising : (P : LedgerKey → Type 0) → ((x y : LedgerKey) → P x → P y → key_bytes x ≡ key_bytes y → x ≡ y) → (xs ys : List LedgerKey)
    → AreRising xs → AreRising ys → All P xs → All P ys → ((q : Bytes) → has_bytes xs q ≡ has_bytes ys q) → xs ≡ ys
unfolding IsStrictlySortedBy
same_rising P one [] [] h g p r e = refl
same_rising P one [] (y ∷ ys) h g p r e = never (first_has y ys) (sym (e (key_bytes y)))
same_rising P one (x ∷ xs) [] h g p r e = never (first_has x xs) (e (key_bytes x))
same_rising P one (x ∷ xs) (y ∷ ys) h g p r e =
    at (bytes_cmp x y) refl (λ same. same_rising P one xs ys h.1 g.1 (All-tail P x xs p) (All-tail P y ys r) (tails_have x y xs ys same h.0 g.0 e))
  where
    at : (o : Ordering) → bytes_cmp x y ≡ o → (key_bytes x ≡ key_bytes y → xs ≡ ys) → x ∷ xs ≡ y ∷ ys
    at Less f tails = never (first_has x xs) (e (key_bytes x) ∙ below_lacks x y ys f g.0)
    at Equal f tails =
        let same : key_bytes x ≡ key_bytes y = equal_bytes x y f in
        ap₂ (λ (k : LedgerKey) (ks : List LedgerKey). k ∷ ks) (one x y (All-head P x xs p) (All-head P y ys r) same) (tails same)
    at Greater f tails = never (first_has y ys) (sym (e (key_bytes y)) ∙ below_lacks y x xs (back y x f) h.0)
