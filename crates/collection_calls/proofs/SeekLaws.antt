-- Laws of the indices of values in vecs.
use Rattle.std.proofs.Common.{◌≡◌, ℕ, zero, suc, ◌+◌, ◌<◌, ◌≤◌, List, [], ◌∷◌, length, get_or, take, drop, Option, Some, None, refl, ap, ◌∙◌, arith}
use Rattle.std.specs.Prelude.{if◌then◌else◌}
use Rattle.std.specs.Option.{option_map, option_or}
use Rattle.std.specs.Ordering.{is_eq}
use Rattle.std.specs.declared.cmp.Ordering.{Ordering}
use Rattle.std.specs.declared.cmp.Ordering.TheVariants.{Less, Equal, Greater}
use Rattle.value_types.specs.Datum.{Datum}
use Rattle.value_types.specs.Views.{datum, datums}
use Rattle.value_types.specs.Order.{datum_cmp}
use Rattle.value_types.specs.declared.value.ScVal.{ScVal}
use Rattle.host_spec.specs.VecRows.{first_index_of, last_index_of}

-- an index counted from another on
abbrev pub counted_from : ℕ → Option ℕ → Option ℕ
counted_from i None = None
counted_from i (Some n) = Some (n + i)

pub counted_start : (o : Option ℕ) → o ≡ counted_from 0 o
counted_start None = refl
counted_start (Some n) = ap (λ (m : ℕ). let o : Option ℕ = Some m in o) (let e : n ≡ n + 0 = omega arith in e)

pub counted_next : (i : ℕ) (o : Option ℕ) → counted_from i (option_map suc o) ≡ counted_from (i + 1) o
counted_next i None = refl
counted_next i (Some n) = ap (λ (m : ℕ). let o : Option ℕ = Some m in o) (let e : suc n + i ≡ n + (i + 1) = omega arith in e)

pub first_here : (d : Datum) (vs : List ScVal) (i : ℕ) (v : ScVal) → i < length vs → v ≡ get_or vs i v → datum_cmp d (datum v) ≡ Equal → counted_from i (first_index_of d (datums (drop i vs))) ≡ Some i
first_here d vs i v lt is h = rw (at d vs i v lt is h) (ap (λ (m : ℕ). let o : Option ℕ = Some m in o) (let e : 0 + i ≡ i = omega arith in e)) where
  at : (d : Datum) (vs : List ScVal) (i : ℕ) (v : ScVal) → i < length vs → v ≡ get_or vs i v → datum_cmp d (datum v) ≡ Equal → first_index_of d (datums (drop i vs)) ≡ Some 0
  at d [] i v lt is h = absurd (omega arith)
  at d (x ∷ vs) zero v lt is h = let at_x : datum_cmp d (datum x) ≡ Equal = rw (← is) h in rw at_x refl
  at d (x ∷ vs) (suc i) v lt is h = at d vs i v (omega arith) is h

other : (o : Ordering) (a b : Option ℕ) → (o ≡ Equal → ⊥) → (if is_eq o then a else b) ≡ b
other Less a b ne = refl
other Equal a b ne = absurd (ne refl)
other Greater a b ne = refl

first_past_by : (d : Datum) (vs : List ScVal) (i : ℕ) (v : ScVal) → i < length vs → v ≡ get_or vs i v → (datum_cmp d (datum v) ≡ Equal → ⊥)
    → first_index_of d (datums (drop i vs)) ≡ option_map suc (first_index_of d (datums (drop (suc i) vs)))
first_past_by d [] i v lt is h = absurd (omega arith)
first_past_by d (x ∷ vs) zero v lt is h = other (datum_cmp d (datum x)) (Some 0) (option_map suc (first_index_of d (datums vs))) (λ q. h (rw is q))
first_past_by d (x ∷ vs) (suc i) v lt is h = first_past_by d vs i v (omega arith) is h

pub first_past : (d : Datum) (vs : List ScVal) (i j : ℕ) (v : ScVal) → j ≡ i + 1 → i < length vs → v ≡ get_or vs i v → (datum_cmp d (datum v) ≡ Equal → ⊥)
    → counted_from i (first_index_of d (datums (drop i vs))) ≡ counted_from j (first_index_of d (datums (drop j vs)))
first_past d vs i j v next lt is h =
    let one : suc i ≡ j = omega arith in
    let one' : i + 1 ≡ j = omega arith in
    ap (counted_from i) (first_past_by d vs i v lt is h) ∙ counted_next i (first_index_of d (datums (drop (suc i) vs)))
    ∙ ap (λ (n : ℕ). counted_from n (first_index_of d (datums (drop (suc i) vs)))) one' ∙ ap (λ (n : ℕ). counted_from j (first_index_of d (datums (drop n vs)))) one

pub first_end : (d : Datum) (vs : List ScVal) (i : ℕ) → length vs ≤ i → counted_from i (first_index_of d (datums (drop i vs))) ≡ None
first_end d vs i h = rw (at d vs i h) refl where
  at : (d : Datum) (vs : List ScVal) (i : ℕ) → length vs ≤ i → first_index_of d (datums (drop i vs)) ≡ None
  at d [] zero h = refl
  at d [] (suc i) h = refl
  at d (x ∷ vs) zero h = absurd (omega arith)
  at d (x ∷ vs) (suc i) h = at d vs i (omega arith)

pub last_start : (d : Datum) (vs : List ScVal) (n : ℕ) → n ≡ length vs → last_index_of d (datums vs) ≡ last_index_of d (datums (take n vs))
last_start d vs n e = ap (λ (x : List ScVal). last_index_of d (datums x)) (all vs n e) where
  all : (vs : List ScVal) (n : ℕ) → n ≡ length vs → vs ≡ take n vs
  all [] zero e = refl
  all [] (suc n) e = refl
  all (v ∷ vs) zero e = absurd (omega arith)
  all (v ∷ vs) (suc n) e = ap (λ (x : List ScVal). v ∷ x) (all vs n (omega arith))

last_here_by : (d : Datum) (vs : List ScVal) (i : ℕ) (v : ScVal) → i < length vs → v ≡ get_or vs i v → datum_cmp d (datum v) ≡ Equal → last_index_of d (datums (take (suc i) vs)) ≡ Some i
last_here_by d [] i v lt is h = absurd (omega arith)
last_here_by d (x ∷ vs) zero v lt is h = let at_x : datum_cmp d (datum x) ≡ Equal = rw (← is) h in rw at_x refl
last_here_by d (x ∷ vs) (suc i) v lt is h = rw (last_here_by d vs i v (omega arith) is h) refl

pub last_here : (d : Datum) (vs : List ScVal) (i j : ℕ) (v : ScVal) → i + 1 ≡ j → i < length vs → v ≡ get_or vs i v → datum_cmp d (datum v) ≡ Equal → last_index_of d (datums (take j vs)) ≡ Some i
last_here d vs i j v next lt is h = let one : j ≡ suc i = omega arith in rw one (last_here_by d vs i v lt is h)

last_past_by : (d : Datum) (vs : List ScVal) (i : ℕ) (v : ScVal) → i < length vs → v ≡ get_or vs i v → (datum_cmp d (datum v) ≡ Equal → ⊥) → last_index_of d (datums (take (suc i) vs)) ≡ last_index_of d (datums (take i vs))
last_past_by d [] i v lt is h = absurd (omega arith)
last_past_by d (x ∷ vs) zero v lt is h = other (datum_cmp d (datum x)) (Some 0) None (λ q. h (rw is q))
last_past_by d (x ∷ vs) (suc i) v lt is h =
    ap (λ (o : Option ℕ). option_or (option_map suc o) (if is_eq (datum_cmp d (datum x)) then Some 0 else None)) (last_past_by d vs i v (omega arith) is h)

pub last_past : (d : Datum) (vs : List ScVal) (i j : ℕ) (v : ScVal) → i + 1 ≡ j → i < length vs → v ≡ get_or vs i v → (datum_cmp d (datum v) ≡ Equal → ⊥) → last_index_of d (datums (take j vs)) ≡ last_index_of d (datums (take i vs))
last_past d vs i j v next lt is h = let one : j ≡ suc i = omega arith in rw one (last_past_by d vs i v lt is h)
