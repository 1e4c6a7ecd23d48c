-- Laws of the indices of keys in maps, whose entries are made anew around a change.
use Rattle.std.proofs.Common.{◌≡◌, ℕ, zero, suc, ◌+◌, ◌<◌, ◌≤◌, List, [], ◌∷◌, ◌++◌, length, get_or, take, drop, Some, None, true, refl, ap, arith}
use Rattle.std.specs.Prelude.{slice_get, is_some}
use Rattle.std.specs.Option.{option_map}
use Rattle.value_types.specs.Datum.{Datum, members_of}
use Rattle.value_types.specs.Views.{datum_pair, datum_pairs}
use Rattle.value_types.specs.Order.{datum_cmp}
use Rattle.value_types.specs.declared.value.Entry.{Entry}
use Rattle.host_spec.specs.Hosted.{is_below}
use Rattle.host_spec.specs.MapRows.{put, without, value_at}
use Rattle.host_frame.specs.KeyIndex.{AreBelow, IsFirst, IsThere, IsGap}
use Rattle.host_frame.proofs.Lemmas.{greater_than, less_of}

-- ---- what stands at an index

put_gap_by : (k v : Datum) (ms : List (Datum × Datum)) (i : ℕ) → AreBelow k (take i ms) → is_below k (members_of (drop i ms)) ≡ true → put k v ms ≡ take i ms ++ ((k, v) ∷ drop i ms)
put_gap_by k v [] zero a b = refl
put_gap_by k v [] (suc i) a b = refl
put_gap_by k v (m ∷ ms) zero a b = rw (less_of (datum_cmp k m.0) b) refl
put_gap_by k v (m ∷ ms) (suc i) a b = rw (greater_than k m.0 a.0) (ap (λ (x : List (Datum × Datum)). m ∷ x) (put_gap_by k v ms i a.1 b))

pub put_gap : (k v : Datum) (ms : List (Datum × Datum)) (i : ℕ) → IsGap k ms i → put k v ms ≡ take i ms ++ ((k, v) ∷ drop i ms)
put_gap k v ms i h = put_gap_by k v ms i h.below h.above

put_there_by : (k v : Datum) (ms : List (Datum × Datum)) (i : ℕ) → AreBelow k (take i ms) → IsFirst k (drop i ms) → put k v ms ≡ take i ms ++ ((k, v) ∷ drop (suc i) ms)
put_there_by k v [] zero a b = absurd b
put_there_by k v [] (suc i) a b = absurd b
put_there_by k v (m ∷ ms) zero a b = rw b refl
put_there_by k v (m ∷ ms) (suc i) a b = rw (greater_than k m.0 a.0) (ap (λ (x : List (Datum × Datum)). m ∷ x) (put_there_by k v ms i a.1 b))

pub put_there : (k v : Datum) (ms : List (Datum × Datum)) (i j : ℕ) → j ≡ i + 1 → IsThere k ms i → put k v ms ≡ take i ms ++ ((k, v) ∷ drop j ms)
put_there k v ms i j next h = let one : j ≡ suc i = omega arith in rw one (put_there_by k v ms i h.below h.first)

without_there_by : (k : Datum) (ms : List (Datum × Datum)) (i : ℕ) → AreBelow k (take i ms) → IsFirst k (drop i ms) → without k ms ≡ take i ms ++ drop (suc i) ms
without_there_by k [] zero a b = absurd b
without_there_by k [] (suc i) a b = absurd b
without_there_by k (m ∷ ms) zero a b = rw b refl
without_there_by k (m ∷ ms) (suc i) a b = rw (greater_than k m.0 a.0) (ap (λ (x : List (Datum × Datum)). m ∷ x) (without_there_by k ms i a.1 b))

pub without_there : (k : Datum) (ms : List (Datum × Datum)) (i j : ℕ) → j ≡ i + 1 → IsThere k ms i → without k ms ≡ take i ms ++ drop j ms
without_there k ms i j next h = let one : j ≡ suc i = omega arith in rw one (without_there_by k ms i h.below h.first)

value_is_there_by : (k : Datum) (ms : List (Datum × Datum)) (i : ℕ) → AreBelow k (take i ms) → IsFirst k (drop i ms) → is_some (value_at k ms) ≡ true
value_is_there_by k [] zero a b = absurd b
value_is_there_by k [] (suc i) a b = absurd b
value_is_there_by k (m ∷ ms) zero a b = rw b refl
value_is_there_by k (m ∷ ms) (suc i) a b = rw (greater_than k m.0 a.0) (value_is_there_by k ms i a.1 b)

pub value_is_there : (k : Datum) (ms : List (Datum × Datum)) (i : ℕ) → IsThere k ms i → is_some (value_at k ms) ≡ true
value_is_there k ms i h = value_is_there_by k ms i h.below h.first

-- ---- entries

pub entry_here : (f : Datum × Datum → Datum) (es : List Entry) (i : ℕ) (e : Entry) → i < length es → e ≡ get_or es i e → option_map f (slice_get (datum_pairs es) i) ≡ Some (f (datum_pair e))
entry_here f [] i e lt is = absurd (omega arith)
entry_here f (x ∷ es) zero e lt is = rw (← is) refl
entry_here f (x ∷ es) (suc i) e lt is = entry_here f es i e (omega arith) is

pub entry_past : (f : Datum × Datum → Datum) (es : List Entry) (i : ℕ) → length es ≤ i → option_map f (slice_get (datum_pairs es) i) ≡ None
entry_past f [] i h = refl
entry_past f (x ∷ es) zero h = absurd (omega arith)
entry_past f (x ∷ es) (suc i) h = entry_past f es i (omega arith)

pub pairs_take : (n : ℕ) (es : List Entry) → datum_pairs (take n es) ≡ take n (datum_pairs es)
pairs_take zero es = refl
pairs_take (suc n) [] = refl
pairs_take (suc n) (e ∷ es) = ap (λ (x : List (Datum × Datum)). datum_pair e ∷ x) (pairs_take n es)

pub pairs_drop : (n : ℕ) (es : List Entry) → datum_pairs (drop n es) ≡ drop n (datum_pairs es)
pairs_drop zero es = refl
pairs_drop (suc n) [] = refl
pairs_drop (suc n) (e ∷ es) = pairs_drop n es
