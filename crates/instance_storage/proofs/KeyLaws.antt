-- Laws of the indices of keys in instance storage, whose entries are changed in place.
use Rattle.std.proofs.Common.{◌≡◌, ℕ, zero, suc, List, [], ◌∷◌, take, drop, true, refl, ap, ◌∙◌}
use Rattle.std.specs.Prelude.{if◌then◌else◌}
use Rattle.std.specs.List.{insert, remove}
use Rattle.std.proofs.Math.ListN.{set}
use Rattle.std.specs.Ordering.{is_lt, is_eq}
use Rattle.std.specs.declared.cmp.Ordering.{Ordering}
use Rattle.std.specs.declared.cmp.Ordering.TheVariants.{Less, Equal, Greater}
use Rattle.value_types.specs.Datum.{Datum, members_of, map as map_datum}
use Rattle.value_types.specs.Order.{datum_cmp}
use Rattle.host_spec.specs.Hosted.{IsHosted, is_below}
use Rattle.host_spec.specs.MapRows.{put, without}
use Rattle.host_frame.specs.KeyIndex.{AreBelow, IsFirst, IsThere, IsGap}
use Rattle.host_frame.proofs.Lemmas.{between, first_of, greater_than, less_of, map_rises, rises, second_of}

-- ---- what stands at an index

put_gap_by : (k v : Datum) (ms : List (Datum × Datum)) (i : ℕ) → AreBelow k (take i ms) → is_below k (members_of (drop i ms)) ≡ true → put k v ms ≡ insert ms i (k, v)
put_gap_by k v [] zero a b = refl
put_gap_by k v [] (suc i) a b = refl
put_gap_by k v (m ∷ ms) zero a b = rw (less_of (datum_cmp k m.0) b) refl
put_gap_by k v (m ∷ ms) (suc i) a b = rw (greater_than k m.0 a.0) (ap (λ (x : List (Datum × Datum)). m ∷ x) (put_gap_by k v ms i a.1 b))

pub put_gap : (k v : Datum) (ms : List (Datum × Datum)) (i : ℕ) → IsGap k ms i → put k v ms ≡ insert ms i (k, v)
put_gap k v ms i h = put_gap_by k v ms i h.below h.above

put_there_by : (k v : Datum) (ms : List (Datum × Datum)) (i : ℕ) → AreBelow k (take i ms) → IsFirst k (drop i ms) → put k v ms ≡ set ms i (k, v)
put_there_by k v [] zero a b = absurd b
put_there_by k v [] (suc i) a b = absurd b
put_there_by k v (m ∷ ms) zero a b = rw b refl
put_there_by k v (m ∷ ms) (suc i) a b = rw (greater_than k m.0 a.0) (ap (λ (x : List (Datum × Datum)). m ∷ x) (put_there_by k v ms i a.1 b))

pub put_there : (k v : Datum) (ms : List (Datum × Datum)) (i : ℕ) → IsThere k ms i → put k v ms ≡ set ms i (k, v)
put_there k v ms i h = put_there_by k v ms i h.below h.first

without_there_by : (k : Datum) (ms : List (Datum × Datum)) (i : ℕ) → AreBelow k (take i ms) → IsFirst k (drop i ms) → without k ms ≡ remove ms i
without_there_by k [] zero a b = absurd b
without_there_by k [] (suc i) a b = absurd b
without_there_by k (m ∷ ms) zero a b = rw b refl
without_there_by k (m ∷ ms) (suc i) a b = rw (greater_than k m.0 a.0) (ap (λ (x : List (Datum × Datum)). m ∷ x) (without_there_by k ms i a.1 b))

pub without_there : (k : Datum) (ms : List (Datum × Datum)) (i : ℕ) → IsThere k ms i → without k ms ≡ remove ms i
without_there k ms i h = without_there_by k ms i h.below h.first

kept_by : (o : Ordering) (k : Datum) (m : Datum × Datum) (ms : List (Datum × Datum)) → is_lt o ≡ true → (if is_eq o then ms else m ∷ without k ms) ≡ m ∷ without k ms
kept_by Less k m ms h = refl
kept_by Equal k m ms h = absurd cc
kept_by Greater k m ms h = absurd cc

without_below : (k : Datum) (ms : List (Datum × Datum)) → rises ms ≡ true → is_below k (members_of ms) ≡ true → without k ms ≡ ms
without_below k [] r b = refl
without_below k (m ∷ ms) r b =
    kept_by (datum_cmp k m.0) k m ms b
    ∙ ap (λ (x : List (Datum × Datum)). m ∷ x)
    (without_below k ms (second_of (is_below m.0 (members_of ms)) (rises ms) r) (next k m ms b (first_of (is_below m.0 (members_of ms)) (rises ms) r))) where
      next : (k : Datum) (m : Datum × Datum) (ms : List (Datum × Datum)) → is_lt (datum_cmp k m.0) ≡ true → is_below m.0 (members_of ms) ≡ true → is_below k (members_of ms) ≡ true
      next k m [] a b = refl
      next k m (n ∷ ms) a b = between k m.0 n.0 a b

without_gap_by : (k : Datum) (ms : List (Datum × Datum)) (i : ℕ) → rises ms ≡ true → AreBelow k (take i ms) → is_below k (members_of (drop i ms)) ≡ true → without k ms ≡ ms
without_gap_by k [] i r a b = refl
without_gap_by k (m ∷ ms) zero r a b = without_below k (m ∷ ms) r b
without_gap_by k (m ∷ ms) (suc i) r a b =
    rw (greater_than k m.0 a.0) (ap (λ (x : List (Datum × Datum)). m ∷ x) (without_gap_by k ms i (second_of (is_below m.0 (members_of ms)) (rises ms) r) a.1 b))

pub without_gap : (k : Datum) (ms : List (Datum × Datum)) (i : ℕ) → IsHosted (map_datum (members_of ms)) → IsGap k ms i → without k ms ≡ ms
without_gap k ms i hosted h = without_gap_by k ms i (map_rises ms hosted.made) h.below h.above
