-- Laws of the indices of keys in maps.
use Rattle.std.proofs.Common.{◌≡◌, ℕ, zero, suc, ◌+◌, ◌<◌, List, [], ◌∷◌, length, get_or, take, drop, Some, None, Bool, true, false, ◌&&◌, refl, sym, ap, ◌∙◌, arith}
use Rattle.std.specs.Prelude.{if◌then◌else◌}
use Rattle.std.specs.Ordering.{is_lt, is_eq, ordering_reverse}
use Rattle.std.specs.declared.cmp.Ordering.{Ordering}
use Rattle.std.specs.declared.cmp.Ordering.TheVariants.{Less, Equal, Greater}
use Rattle.value_types.specs.Datum.{Datum, members_of, map as map_datum}
use Rattle.value_types.specs.Views.{datum, datum_pairs}
use Rattle.value_types.specs.Order.{datum_cmp, datum_total}
use Rattle.value_types.specs.declared.value.Entry.{Entry}
use Rattle.host_spec.specs.Hosted.{IsHosted, IsMade, is_below}
use Rattle.host_spec.specs.MapRows.{value_at}
use Rattle.host_frame.specs.Made.{ArePairsMade}
use Rattle.host_frame.specs.KeyIndex.{AreBelow, IsFirst, IsThere, IsGap}
use Rattle.host_frame.proofs.Making.{rises, map_rises, members_made}

-- ---- orders

pub less_of : (o : Ordering) → is_lt o ≡ true → o ≡ Less
less_of Less h = refl
less_of Equal h = absurd cc
less_of Greater h = absurd cc

is_less : (o : Ordering) → o ≡ Less → is_lt o ≡ true
is_less o e = rw e refl

pub greater_than : (k l : Datum) → is_lt (datum_cmp l k) ≡ true → datum_cmp k l ≡ Greater
greater_than k l h = datum_total.antisymm k l ∙ ap ordering_reverse (less_of (datum_cmp l k) h)

less_than : (k l : Datum) → datum_cmp k l ≡ Greater → datum_cmp l k ≡ Less
less_than k l h = datum_total.antisymm l k ∙ ap ordering_reverse h

pub between : (k l m : Datum) → is_lt (datum_cmp k l) ≡ true → is_lt (datum_cmp l m) ≡ true → is_lt (datum_cmp k m) ≡ true
between k l m a b = is_less (datum_cmp k m) (datum_total.trans k l m (less_of (datum_cmp k l) a) (less_of (datum_cmp l m) b))

same_below : (m k l : Datum) → datum_cmp k l ≡ Equal → is_lt (datum_cmp m l) ≡ true → is_lt (datum_cmp m k) ≡ true
same_below m k l e h =
    let same : datum_cmp m k ≡ datum_cmp m l = datum_total.antisymm m k ∙ ap ordering_reverse (datum_total.congr k l m e) ∙ sym (datum_total.antisymm m l) in
    rw same h

pub first_of : (a b : Bool) → a && b ≡ true → a ≡ true
first_of true b h = refl
first_of false b h = absurd cc

pub second_of : (a b : Bool) → a && b ≡ true → b ≡ true
second_of true b h = h
second_of false b h = absurd cc

-- ---- keys that are below another

below_up : (k l : Datum) (ms : List (Datum × Datum)) → is_lt (datum_cmp l k) ≡ true → AreBelow l ms → AreBelow k ms
below_up k l [] h a = tt
below_up k l (m ∷ ms) h a = (between m.0 l k a.0 h, below_up k l ms h a.1)

below_same : (k l : Datum) (ms : List (Datum × Datum)) → datum_cmp k l ≡ Equal → AreBelow l ms → AreBelow k ms
below_same k l [] e a = tt
below_same k l (m ∷ ms) e a = (same_below m.0 k l e a.0, below_same k l ms e a.1)

-- what is below the first key is below the others
below_at : (x : Datum) (es : List Entry) (i : ℕ) (e : Entry) → rises (datum_pairs es) ≡ true → is_below x (members_of (datum_pairs es)) ≡ true → i < length es → e ≡ get_or es i e
    → is_lt (datum_cmp x (datum e.key)) ≡ true
below_at x [] i e r b lt is = absurd (omega arith)
below_at x (y ∷ es) zero e r b lt is = rw is b
below_at x (y ∷ es) (suc i) e r b lt is =
    below_at x es i e (second_of (is_below (datum y.key) (members_of (datum_pairs es))) (rises (datum_pairs es)) r)
    (past x (datum y.key) (datum_pairs es) b (first_of (is_below (datum y.key) (members_of (datum_pairs es))) (rises (datum_pairs es)) r)) (omega arith) is where
      past : (x k : Datum) (ms : List (Datum × Datum)) → is_lt (datum_cmp x k) ≡ true → is_below k (members_of ms) ≡ true → is_below x (members_of ms) ≡ true
      past x k [] a b = refl
      past x k (m ∷ ms) a b = between x k m.0 a b

before_at : (es : List Entry) (i : ℕ) (e : Entry) → rises (datum_pairs es) ≡ true → i < length es → e ≡ get_or es i e → AreBelow (datum e.key) (take i (datum_pairs es))
before_at [] i e r lt is = absurd (omega arith)
before_at (y ∷ es) zero e r lt is = tt
before_at (y ∷ es) (suc i) e r lt is =
    let more = second_of (is_below (datum y.key) (members_of (datum_pairs es))) (rises (datum_pairs es)) r in (
      below_at (datum y.key) es i e more (first_of (is_below (datum y.key) (members_of (datum_pairs es))) (rises (datum_pairs es)) r) (omega arith) is,
      before_at es i e more (omega arith) is,
    )

-- one more key that is below
below_next : (k : Datum) (es : List Entry) (i : ℕ) (e : Entry) → i < length es → e ≡ get_or es i e → is_lt (datum_cmp (datum e.key) k) ≡ true → AreBelow k (take i (datum_pairs es)) → AreBelow k (take (suc i) (datum_pairs es))
below_next k [] i e lt is h a = absurd (omega arith)
below_next k (y ∷ es) zero e lt is h a = ((let at_y : is_lt (datum_cmp (datum y.key) k) ≡ true = rw (← is) h in at_y), tt)
below_next k (y ∷ es) (suc i) e lt is h a = (a.0, below_next k es i e (omega arith) is h a.1)

-- ---- halves

pub above_end : (k : Datum) (es : List Entry) (n : ℕ) → n ≡ length es → is_below k (members_of (drop n (datum_pairs es))) ≡ true
above_end k [] zero h = refl
above_end k [] (suc n) h = refl
above_end k (e ∷ es) zero h = absurd (omega arith)
above_end k (e ∷ es) (suc n) h = above_end k es n (omega arith)

pub above_middle : (k : Datum) (es : List Entry) (i : ℕ) (e : Entry) → i < length es → e ≡ get_or es i e → datum_cmp k (datum e.key) ≡ Less → is_below k (members_of (drop i (datum_pairs es))) ≡ true
above_middle k [] i e lt is h = absurd (omega arith)
above_middle k (x ∷ es) zero e lt is h = let at_x : datum_cmp k (datum x.key) ≡ Less = rw (← is) h in rw at_x refl
above_middle k (x ∷ es) (suc i) e lt is h = above_middle k es i e (omega arith) is h

pub below_middle : (k : Datum) (es : List Entry) (i j : ℕ) (e : Entry) → IsHosted (map_datum (members_of (datum_pairs es))) → j ≡ i + 1 → i < length es → e ≡ get_or es i e
    → datum_cmp k (datum e.key) ≡ Greater → AreBelow k (take j (datum_pairs es))
below_middle k es i j e hosted next lt is h =
    let lower : is_lt (datum_cmp (datum e.key) k) ≡ true = is_less (datum_cmp (datum e.key) k) (less_than k (datum e.key) h) in
    let one : j ≡ suc i = omega arith in
    rw one (below_next k es i e lt is lower (below_up k (datum e.key) (take i (datum_pairs es)) lower (before_at es i e (map_rises (datum_pairs es) hosted.made) lt is)))

first_at : (k : Datum) (es : List Entry) (i : ℕ) (e : Entry) → i < length es → e ≡ get_or es i e → datum_cmp k (datum e.key) ≡ Equal → IsFirst k (drop i (datum_pairs es))
first_at k [] i e lt is h = absurd (omega arith)
first_at k (x ∷ es) zero e lt is h = let at_x : datum_cmp k (datum x.key) ≡ Equal = rw (← is) h in at_x
first_at k (x ∷ es) (suc i) e lt is h = first_at k es i e (omega arith) is h

pub there : (k : Datum) (es : List Entry) (i : ℕ) (e : Entry) → IsHosted (map_datum (members_of (datum_pairs es))) → i < length es → e ≡ get_or es i e → datum_cmp k (datum e.key) ≡ Equal → IsThere k (datum_pairs es) i
there k es i e hosted lt is h = record {
  below = below_same k (datum e.key) (take i (datum_pairs es)) h (before_at es i e (map_rises (datum_pairs es) hosted.made) lt is);
  first = first_at k es i e lt is h;
}

pub gap : (k : Datum) (ms : List (Datum × Datum)) (i j : ℕ) → i ≡ j → AreBelow k (take i ms) → is_below k (members_of (drop j ms)) ≡ true → IsGap k ms i
gap k ms i j e a b = record { below = a; above = rw e b }

-- ---- the value at an index

value_there_by : (k : Datum) (es : List Entry) (i : ℕ) (e : Entry) → i < length es → e ≡ get_or es i e → AreBelow k (take i (datum_pairs es)) → IsFirst k (drop i (datum_pairs es)) → value_at k (datum_pairs es) ≡ Some (datum e.val)
value_there_by k [] i e lt is a b = absurd (omega arith)
value_there_by k (x ∷ es) zero e lt is a b = rw (b, ← is) refl
value_there_by k (x ∷ es) (suc i) e lt is a b = rw (greater_than k (datum x.key) a.0) (value_there_by k es i e (omega arith) is a.1 b)

pub value_there : (k : Datum) (es : List Entry) (i : ℕ) (e : Entry) → IsThere k (datum_pairs es) i → i < length es → e ≡ get_or es i e → value_at k (datum_pairs es) ≡ Some (datum e.val)
value_there k es i e h lt is = value_there_by k es i e lt is h.below h.first

past_by : (o : Ordering) (k v : Datum) (ms : List (Datum × Datum)) → is_lt o ≡ true → (if is_eq o then Some v else value_at k ms) ≡ value_at k ms
past_by Less k v ms h = refl
past_by Equal k v ms h = absurd cc
past_by Greater k v ms h = absurd cc

value_below : (k : Datum) (ms : List (Datum × Datum)) → rises ms ≡ true → is_below k (members_of ms) ≡ true → value_at k ms ≡ None
value_below k [] r b = refl
value_below k (m ∷ ms) r b =
    past_by (datum_cmp k m.0) k m.1 ms b
    ∙ value_below k ms (second_of (is_below m.0 (members_of ms)) (rises ms) r) (next k m ms b (first_of (is_below m.0 (members_of ms)) (rises ms) r)) where
      next : (k : Datum) (m : Datum × Datum) (ms : List (Datum × Datum)) → is_lt (datum_cmp k m.0) ≡ true → is_below m.0 (members_of ms) ≡ true → is_below k (members_of ms) ≡ true
      next k m [] a b = refl
      next k m (n ∷ ms) a b = between k m.0 n.0 a b

value_gap_by : (k : Datum) (ms : List (Datum × Datum)) (i : ℕ) → rises ms ≡ true → AreBelow k (take i ms) → is_below k (members_of (drop i ms)) ≡ true → value_at k ms ≡ None
value_gap_by k [] i r a b = refl
value_gap_by k (m ∷ ms) zero r a b = value_below k (m ∷ ms) r b
value_gap_by k (m ∷ ms) (suc i) r a b = rw (greater_than k m.0 a.0) (value_gap_by k ms i (second_of (is_below m.0 (members_of ms)) (rises ms) r) a.1 b)

pub value_gap : (k : Datum) (ms : List (Datum × Datum)) (i : ℕ) → IsHosted (map_datum (members_of ms)) → IsGap k ms i → value_at k ms ≡ None
value_gap k ms i hosted h = value_gap_by k ms i (map_rises ms hosted.made) h.below h.above

-- ---- entries

made_at : (es : List Entry) (i : ℕ) (e : Entry) → ArePairsMade (datum_pairs es) → i < length es → e ≡ get_or es i e → IsMade (datum e.key) × IsMade (datum e.val)
made_at [] i e a lt is = absurd (omega arith)
made_at (x ∷ es) zero e a lt is = rw is a.0
made_at (x ∷ es) (suc i) e a lt is = made_at es i e a.1 (omega arith) is

pub key_made : (es : List Entry) (i : ℕ) (e : Entry) → IsHosted (map_datum (members_of (datum_pairs es))) → i < length es → e ≡ get_or es i e → IsMade (datum e.key)
key_made es i e h lt is = (made_at es i e (members_made (datum_pairs es) h.made) lt is).0

pub val_made : (es : List Entry) (i : ℕ) (e : Entry) → IsHosted (map_datum (members_of (datum_pairs es))) → i < length es → e ≡ get_or es i e → IsMade (datum e.val)
val_made es i e h lt is = (made_at es i e (members_made (datum_pairs es) h.made) lt is).1
