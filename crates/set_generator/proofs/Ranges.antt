-- Sums that are reduced twice, and lists that are filtered.
use Rattle.std.specs.List.{range_with_len, AllByRecursion}
use Rattle.std.proofs.Common.{◌≡◌, ℕ, zero, suc, ◌+◌, ◌<◌, ◌≤◌, Bool, true, false, cond, eqb, List, [], ◌∷◌, ◌++◌, map, filter, refl, ap, ◌∙◌, arith}
use Rattle.std.proofs.lemmas.Bool.{eqb-true}
use Rattle.std.proofs.lemmas.List.{map-append, append-nil}
use Rattle.std.proofs.lemmas.List.Elements.{filter-append}

-- what holds of each number of a range
pub each_in_range : (P : ℕ → Type 0) (g : ℕ → ℕ) (a n : ℕ) → ((j : ℕ) → a ≤ j → j < a + n → P (g j)) → AllByRecursion P (map g (range_with_len a n))
each_in_range P g a zero h = tt
each_in_range P g a (suc n) h = (h a (omega arith) (omega arith), each_in_range P g (a + 1) n (λ j low high. h j (omega (arith, low)) (omega (arith, high))))

-- tests and functions that agree on the list
pub map_filter_same : {A : Type 0} (P : ℕ → Type 0) (f g : ℕ → A) (p q : ℕ → Bool) → ((k : ℕ) → P k → f k ≡ g k) → ((k : ℕ) → P k → p k ≡ q k)
    → (xs : List ℕ) → AllByRecursion P xs → map f (filter p xs) ≡ map g (filter q xs)
map_filter_same P f g p q h t [] each = refl
map_filter_same {A} P f g p q h t (x ∷ xs) each =
    ap (λ (b : Bool). map f (cond b (x ∷ filter p xs) (filter p xs))) (t x each.0)
    ∙ at (q x) (map_filter_same P f g p q h t xs each.1)
  where
    at : (b : Bool) → map f (filter p xs) ≡ map g (filter q xs) → map f (cond b (x ∷ filter p xs) (filter p xs)) ≡ map g (cond b (x ∷ filter q xs) (filter q xs))
    at true rest = ap (λ (y : A). y ∷ map f (filter p xs)) (h x each.0) ∙ ap (λ (ys : List A). g x ∷ ys) rest
    at false rest = rest

-- ---- one more number of a range

range_last : (a n : ℕ) → range_with_len a (suc n) ≡ range_with_len a n ++ (a + n) ∷ []
range_last a zero = ap (λ (k : ℕ). k ∷ []) (omega arith)
range_last a (suc n) = ap (λ (xs : List ℕ). a ∷ xs) (range_last (a + 1) n ∙ ap (λ (k : ℕ). range_with_len (a + 1) n ++ k ∷ []) (omega arith))

pub next_number : (n : ℕ) → n + 1 ≡ suc n
next_number n = omega arith

pub range_next : (n : ℕ) → range_with_len 0 (n + 1) ≡ range_with_len 0 n ++ n ∷ []
range_next n = ap (range_with_len 0) (next_number n) ∙ range_last 0 n ∙ ap (λ (k : ℕ). range_with_len 0 n ++ k ∷ []) (omega arith)

pub map_last : {A : Type 0} (f : ℕ → A) (n : ℕ) → map f (range_with_len 0 (n + 1)) ≡ map f (range_with_len 0 n) ++ f n ∷ []
map_last f n =
    ap (map f) (range_next n)
    ∙ map-append f (range_with_len 0 n) (n ∷ [])

pub not_eqb : (a b : ℕ) → (a ≡ b → ⊥) → eqb a b ≡ false
not_eqb a b f = at (eqb a b) (eqb-true a b)
  where
    at : (t : Bool) → (t ≡ true → a ≡ b) → t ≡ false
    at true g = absurd (f (g refl))
    at false g = refl

module _ {A : Type 0} (f : ℕ → A) (p : ℕ → Bool) (g : ℕ → ℕ) (n : ℕ) where
  filter_last : map f (filter p (map g (range_with_len 0 (n + 1)))) ≡ map f (filter p (map g (range_with_len 0 n))) ++ map f (cond (p (g n)) (g n ∷ []) [])
  filter_last =
      ap (λ (xs : List ℕ). map f (filter p xs)) (map_last g n)
      ∙ ap (map f) (filter-append p (map g (range_with_len 0 n)) (g n ∷ []))
      ∙ map-append f (filter p (map g (range_with_len 0 n))) (cond (p (g n)) (g n ∷ []) [])

  pub filter_kept : p (g n) ≡ true → map f (filter p (map g (range_with_len 0 (n + 1)))) ≡ map f (filter p (map g (range_with_len 0 n))) ++ f (g n) ∷ []
  filter_kept e = filter_last ∙ ap (λ (b : Bool). map f (filter p (map g (range_with_len 0 n))) ++ map f (cond b (g n ∷ []) [])) e

  pub filter_dropped : p (g n) ≡ false → map f (filter p (map g (range_with_len 0 (n + 1)))) ≡ map f (filter p (map g (range_with_len 0 n)))
  filter_dropped e =
      filter_last ∙ ap (λ (b : Bool). map f (filter p (map g (range_with_len 0 n))) ++ map f (cond b (g n ∷ []) [])) e
      ∙ append-nil (map f (filter p (map g (range_with_len 0 n))))

-- two functions that agree everywhere
pub map_same : {A B : Type 0} (f g : A → B) → ((x : A) → f x ≡ g x) → (xs : List A) → map f xs ≡ map g xs
map_same f g h [] = refl
map_same {A} {B} f g h (x ∷ xs) = ap (λ (y : B). y ∷ map f xs) (h x) ∙ ap (λ (ys : List B). g x ∷ ys) (map_same f g h xs)
