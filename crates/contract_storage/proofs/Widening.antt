-- Wide keys that are the same.
use Rattle.std.specs.Prelude.{slice_index_or}
use Rattle.std.proofs.Common.{◌≡◌, ℕ, ◌+◌, ◌<◌, ◌≤◌, List, length, take, Option, Some, sym, ap, ◌∙◌, subst, arith}
use Rattle.std.proofs.lemmas.List.{take_more_same}
use Rattle.value_types.specs.Datum.{Datum}
use Rattle.value_types.specs.Views.{datums}
use Rattle.value_types.specs.declared.value.ScVal.{ScVal}
use Rattle.value_types.specs.declared.value.ScVal.TheVariants as values

-- vecs with the same items
pub same_vecs : (xs ys : List ScVal) (x y : List Datum) (v w : Option (List Datum)) → v ≡ Some x → w ≡ Some y → datums xs ≡ x → datums ys ≡ y → xs ≡ ys → v ≡ w
same_vecs xs ys x y v w f g h k e = f ∙ ap (λ (ds : List Datum). Some ds) (sym h ∙ ap datums e ∙ k) ∙ sym g

-- the items at an index
abbrev pub SameAt : List ScVal → List ScVal → ℕ → Type 0
SameAt xs ys i = (d : ScVal) → slice_index_or xs i d ≡ slice_index_or ys i d

one_more : (xs ys : List ScVal) (i n : ℕ) → n ≡ i + 1 → i < length xs → i < length ys → take i xs ≡ take i ys → SameAt xs ys i → take n xs ≡ take n ys
one_more xs ys i n s l m e a = subst (λ (k : ℕ). take k xs ≡ take k ys) (sym s) (take_more_same xs ys i values.Void l m e (a values.Void))

-- four items more
pub four_more : (xs ys : List ScVal) (i n : ℕ) → n ≡ i + 4 → i + 4 ≤ length xs → i + 4 ≤ length ys → take i xs ≡ take i ys → SameAt xs ys i → SameAt xs ys (i + 1)
    → SameAt xs ys (i + 2) → SameAt xs ys (i + 3) → take n xs ≡ take n ys
four_more xs ys i n s l m e a b c d =
    one_more xs ys (i + 3) n (omega (arith, s)) (omega (arith, l)) (omega (arith, m))
    (one_more xs ys (i + 2) (i + 3) (omega arith) (omega (arith, l)) (omega (arith, m))
    (one_more xs ys (i + 1) (i + 2) (omega arith) (omega (arith, l)) (omega (arith, m)) (one_more xs ys i (i + 1) (omega arith) (omega (arith, l)) (omega (arith, m)) e a) b) c) d
