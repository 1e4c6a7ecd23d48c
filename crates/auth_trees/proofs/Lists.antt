-- Laws of lists.
use Rattle.std.proofs.Common.{◌≡◌, ℕ, zero, suc, ◌+◌, ◌<◌, Bool, true, false, cond, eqb, List, [], ◌∷◌, ◌++◌, length, map, take, filter, Some, slice_get, ◌⊎◌, inl, inr, refl, ap, ◌∙◌, arith}
use Rattle.std.specs.List.{AllByRecursion, IsDistinct}
use Rattle.std.proofs.lemmas.Option.{same_Some}
use Rattle.std.proofs.lemmas.Map.Keys.{IsDistinct-from_apart, apart_from_distinct}
use Rattle.std.proofs.lemmas.List.{get_or-take, length-take}

pub map_map : {A B C : Type 0} (f : B → C) (g : A → B) (xs : List A) → map f (map g xs) ≡ map (λ x. f (g x)) xs
map_map f g [] = refl
map_map f g (x ∷ xs) = ap (λ ys. f (g x) ∷ ys) (map_map f g xs)

-- ---- an item by its index

pub get_split : {A : Type 0} (xs ys : List A) (i : ℕ) (z : A) → slice_get (xs ++ ys) i ≡ Some z
    → (slice_get xs i ≡ Some z) ⊎ ((j : ℕ) × (i ≡ length xs + j) × (slice_get ys j ≡ Some z))
get_split [] ys i z e = inr (i, omega arith, e)
get_split (x ∷ xs) ys zero z e = inl e
get_split (x ∷ xs) ys (suc i) z e =
    elim (get_split xs ys i z e) [ inl h ↦ inl h | inr h ↦ let f : suc i ≡ length (x ∷ xs) + h.0 = omega (arith, h.1) in inr (h.0, f, h.2) ]

pub get_map : {A B : Type 0} (f : A → B) (xs : List A) (i : ℕ) (x : A) → slice_get xs i ≡ Some x → slice_get (map f xs) i ≡ Some (f x)
get_map f [] i x e = absurd cc
get_map f (z ∷ xs) zero x e = ap Some (ap f (same_Some z x e))
get_map f (z ∷ xs) (suc i) x e = get_map f xs i x e

pub get_map_some : {A B : Type 0} (f : A → B) (xs : List A) (i : ℕ) (y : B) → slice_get (map f xs) i ≡ Some y → (x : A) × (slice_get xs i ≡ Some x) × (f x ≡ y)
get_map_some f [] i y e = absurd cc
get_map_some f (z ∷ xs) zero y e = (z, refl, same_Some (f z) y e)
get_map_some f (z ∷ xs) (suc i) y e = get_map_some f xs i y e

-- ---- all items

pub all_map : {A B : Type 0} (P : B → Type 0) (f : A → B) (xs : List A) → AllByRecursion (λ x. P (f x)) xs → AllByRecursion P (map f xs)
all_map P f [] h = tt
all_map P f (x ∷ xs) h = (h.0, all_map P f xs h.1)

pub all_take : {A : Type 0} (P : A → Type 0) (n : ℕ) (xs : List A) → AllByRecursion P xs → AllByRecursion P (take n xs)
all_take P zero [] h = tt
all_take P zero (x ∷ xs) h = tt
all_take P (suc n) [] h = tt
all_take P (suc n) (x ∷ xs) h = (h.0, all_take P n xs h.1)

pub distinct_take : (n : ℕ) (xs : List ℕ) → IsDistinct eqb xs → IsDistinct eqb (take n xs)
distinct_take n xs h =
    IsDistinct-from_apart eqb (take n xs) (λ i j d lt within.
    let most : j < n = omega (arith, length-take n xs) in
    let long : j < length xs = omega (arith, length-take n xs) in
    let other : i < n = omega arith in
    rw (get_or-take n xs i d other, get_or-take n xs j d most) (apart_from_distinct eqb xs i j d h lt long))

-- ---- filters and folds

pub filter_map_same : {A : Type 0} (test : A → Bool) (h : A → A) → ((x : A) → test (h x) ≡ test x) → (xs : List A) → filter test (map h xs) ≡ map h (filter test xs)
filter_map_same test h same [] = refl
filter_map_same test h same (x ∷ xs) =
    let rest = filter_map_same test h same xs in
    ap (λ b. cond b (h x ∷ filter test (map h xs)) (filter test (map h xs))) (same x)
    ∙ elim (test x) as (λ b. cond b (h x ∷ filter test (map h xs)) (filter test (map h xs)) ≡ map h (cond b (x ∷ filter test xs) (filter test xs))) [ true ↦ ap (λ ys. h x ∷ ys) rest | false ↦ rest ]

pub filter_all : {A : Type 0} (test : A → Bool) (Q : A → Type 0) (xs : List A) → AllByRecursion (λ x. test x ≡ true → Q x) xs → AllByRecursion Q (filter test xs)
filter_all test Q [] h = tt
filter_all test Q (x ∷ xs) h =
    let rest : AllByRecursion Q (filter test xs) = filter_all test Q xs h.1 in
    let go : (b : Bool) → (b ≡ true → Q x) → AllByRecursion Q (cond b (x ∷ filter test xs) (filter test xs)) =
    λ b. elim b as (λ b. (b ≡ true → Q x) → AllByRecursion Q (cond b (x ∷ filter test xs) (filter test xs))) [ true ↦ λ q. (q refl, rest) | false ↦ λ q. rest ] in
    go (test x) h.0
