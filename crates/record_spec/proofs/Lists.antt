-- Laws of lists: an item by its index, what a filter keeps, and the first result of a search.
use Rattle.std.proofs.Common.{◌≡◌, ℕ, zero, suc, ◌+◌, ◌<◌, Bool, true, false, cond, List, [], ◌∷◌, ◌++◌, length, map, filter}
use Rattle.std.proofs.Common.{Option, Some, None, option_map, slice_get, inl, inr, refl, sym, ap, ◌∙◌, subst, arith}
use Rattle.std.specs.List.{AllByRecursion, list_any}
use Rattle.std.specs.Option.{option_or}
use Rattle.std.proofs.lemmas.Bool.{cond_both, or_cases}
use Rattle.std.proofs.lemmas.Option.{same_Some, slice_get-map}
use Rattle.std.proofs.lemmas.List.Elements.{All-filter, All-from_recursion, filter-append, recursion_from_All}
use Rattle.auth_spec.specs.Demands.{first_from}
use Rattle.list_laws.proofs.Lemmas.{get_right}

-- ---- an item by its index

-- the items before an item, and those behind it
pub record At {A : Type 0} (xs : List A) (i : ℕ) (x : A) : Type 0 where
  pub before : List A
  pub after : List A
  pub whole : xs ≡ before ++ x ∷ after
  pub index : i ≡ length before

-- a list around an item
pub split_at : {A : Type 0} (xs : List A) (i : ℕ) (x : A) → slice_get xs i ≡ Some x → At xs i x
split_at [] i x e = absurd cc
split_at (y ∷ xs) zero x e = record { before = []; after = xs; whole = ap (λ z. z ∷ xs) (same_Some y x e); index = refl }
split_at (y ∷ xs) (suc i) x e =
    let h = split_at xs i x e in
    record { before = y ∷ h.before; after = h.after; whole = ap (λ zs. y ∷ zs) h.whole; index = ap suc h.index }

-- an item behind as many others
pub get_here : {A : Type 0} (before after : List A) (x : A) → slice_get (before ++ x ∷ after) (length before) ≡ Some x
get_here before after x =
    let none_more : length before ≡ length before + 0 = omega arith in get_right before (x ∷ after) (length before) 0 none_more

-- an item within the first of two lists is one of that list
pub get_first : {A : Type 0} (xs ys : List A) (i : ℕ) (x : A) → i < length xs → slice_get (xs ++ ys) i ≡ Some x → slice_get xs i ≡ Some x
get_first [] ys i x lt e = absurd (omega arith)
get_first (z ∷ xs) ys zero x lt e = e
get_first (z ∷ xs) ys (suc i) x lt e = get_first xs ys i x (omega arith) e

-- an item of a map
pub get_map : {A B : Type 0} (f : A → B) (xs : List A) (i : ℕ) (x : A) → slice_get xs i ≡ Some x → slice_get (map f xs) i ≡ Some (f x)
get_map f xs i x e = slice_get-map f xs i ∙ ap (option_map f) e

-- the item that was mapped
pub record Mapped {A B : Type 0} (f : A → B) (xs : List A) (i : ℕ) (y : B) : Type 0 where
  pub item : A
  pub here : slice_get xs i ≡ Some item
  pub is : f item ≡ y

-- each item of a map is of an item
pub mapped : {A B : Type 0} (f : A → B) (xs : List A) (i : ℕ) (y : B) → slice_get (map f xs) i ≡ Some y → Mapped f xs i y
mapped f [] i y e = absurd cc
mapped f (z ∷ xs) zero y e = record { item = z; here = refl; is = same_Some (f z) y e }
mapped f (z ∷ xs) (suc i) y e = let h = mapped f xs i y e in record { item = h.item; here = h.here; is = h.is }

-- what is true of all items is true of one
pub all_get : {A : Type 0} (P : A → Type 0) (xs : List A) (i : ℕ) (x : A) → AllByRecursion P xs → slice_get xs i ≡ Some x → P x
all_get P [] i x h e = absurd cc
all_get P (y ∷ xs) zero x h e = subst P (same_Some y x e) h.0
all_get P (y ∷ xs) (suc i) x h e = all_get P xs i x h.1 e

-- ---- a filter

-- an item that passes has as many before it as pass before it
pub filter_here : {A : Type 0} (p : A → Bool) (before after : List A) (x : A) → p x ≡ true
    → slice_get (filter p (before ++ x ∷ after)) (length (filter p before)) ≡ Some x
filter_here p before after x e =
    let none_more : length (filter p before) ≡ length (filter p before) + 0 = omega arith in
    ap (λ ys. slice_get ys (length (filter p before))) (filter-append p before (x ∷ after))
    ∙ get_right (filter p before) (filter p (x ∷ after)) (length (filter p before)) 0 none_more
    ∙ ap (λ b. slice_get (cond b (x ∷ filter p after) (filter p after)) 0) e

-- an item that passes, and how many pass before it
pub record Passed {A : Type 0} (p : A → Bool) (xs : List A) (i : ℕ) (x : A) : Type 0 where
  pub before : List A
  pub after : List A
  pub whole : xs ≡ before ++ x ∷ after
  pub index : i ≡ length (filter p before)
  pub passes : p x ≡ true

passed_yes : {A : Type 0} (p : A → Bool) (y : A) (xs : List A) (i : ℕ) (x : A) → p y ≡ true → Passed p xs i x → Passed p (y ∷ xs) (suc i) x
passed_yes p y xs i x e h = record {
  before = y ∷ h.before;
  after = h.after;
  whole = ap (λ zs. y ∷ zs) h.whole;
  index = ap suc h.index ∙ sym (ap (λ b. length (cond b (y ∷ filter p h.before) (filter p h.before))) e);
  passes = h.passes;
}

passed_no : {A : Type 0} (p : A → Bool) (y : A) (xs : List A) (i : ℕ) (x : A) → p y ≡ false → Passed p xs i x → Passed p (y ∷ xs) i x
passed_no p y xs i x e h = record {
  before = y ∷ h.before;
  after = h.after;
  whole = ap (λ zs. y ∷ zs) h.whole;
  index = h.index ∙ sym (ap (λ b. length (cond b (y ∷ filter p h.before) (filter p h.before))) e);
  passes = h.passes;
}

-- an item that was kept, in the list itself
pub kept_at : {A : Type 0} (p : A → Bool) (xs : List A) (i : ℕ) (x : A) → slice_get (filter p xs) i ≡ Some x → Passed p xs i x
kept_at p [] i x e = absurd cc
kept_at p (y ∷ xs) zero x e =
    cond_both (p y) (y ∷ filter p xs) (filter p xs) (λ ys. slice_get ys zero ≡ Some x → Passed p (y ∷ xs) zero x) (λ t e.
    let same = same_Some y x e in
    record { before = []; after = xs; whole = ap (λ z. z ∷ xs) same; index = refl; passes = ap p (sym same) ∙ t })
    (λ f e. passed_no p y xs zero x f (kept_at p xs zero x e)) e
kept_at p (y ∷ xs) (suc i) x e =
    cond_both (p y) (y ∷ filter p xs) (filter p xs) (λ ys. slice_get ys (suc i) ≡ Some x → Passed p (y ∷ xs) (suc i) x)
    (λ t e. passed_yes p y xs i x t (kept_at p xs i x e)) (λ f e. passed_no p y xs (suc i) x f (kept_at p xs (suc i) x e)) e

-- what is true of all items is true of those that pass
pub all_kept : {A : Type 0} (P : A → Type 0) (p : A → Bool) (xs : List A) → AllByRecursion P xs → AllByRecursion P (filter p xs)
all_kept P p xs h = recursion_from_All P (filter p xs) (All-filter p P xs (All-from_recursion P xs h))

-- ---- whether any item passes

-- an item that passes
pub record Found {A : Type 0} (p : A → Bool) (xs : List A) : Type 0 where
  pub index : ℕ
  pub item : A
  pub here : slice_get xs index ≡ Some item
  pub passes : p item ≡ true

-- if any item passes, there is one
pub any_found : {A : Type 0} (p : A → Bool) (xs : List A) → list_any p xs ≡ true → Found p xs
any_found p [] e = absurd cc
any_found p (x ∷ xs) e =
    elim (or_cases (p x) (list_any p xs) e) [
      | inl t ↦ record { index = 0; item = x; here = refl; passes = t }
      | inr r ↦ let h = any_found p xs r in record { index = suc h.index; item = h.item; here = h.here; passes = h.passes }
    ]

-- ---- the first result of a search

first_none : {A B : Type 0} (f : ℕ → A → Option B) (i : ℕ) (xs : List A)
    → ((k : ℕ) (x : A) → slice_get xs k ≡ Some x → f (i + k) x ≡ None) → first_from f i xs ≡ None
first_none f i [] h = refl
first_none f i (x ∷ xs) h =
    let here : i + 0 ≡ i = omega arith in
    let first : f i x ≡ None = subst (λ k. f k x ≡ None) here (h 0 x refl) in
    ap (λ o. option_or o (first_from f (suc i) xs)) first
    ∙ first_none f (suc i) xs (λ k y at. let more : i + suc k ≡ suc i + k = omega arith in subst (λ k. f k y ≡ None) more (h (suc k) y at))

first_some : {A B : Type 0} (f : ℕ → A → Option B) (i : ℕ) (xs : List A) (k : ℕ) (x : A) (v : B) → slice_get xs k ≡ Some x
    → f (i + k) x ≡ Some v → ((j : ℕ) (y : A) → j < k → slice_get xs j ≡ Some y → f (i + j) y ≡ None) → first_from f i xs ≡ Some v
first_some f i [] k x v at e h = absurd cc
first_some f i (z ∷ xs) zero x v at e h =
    let here : i + 0 ≡ i = omega arith in
    let first : f i z ≡ Some v = subst (λ k. f k z ≡ Some v) here (subst (λ y. f (i + 0) y ≡ Some v) (sym (same_Some z x at)) e) in
    ap (λ o. option_or o (first_from f (suc i) xs)) first
first_some f i (z ∷ xs) (suc k) x v at e h =
    let here : i + 0 ≡ i = omega arith in
    let first : f i z ≡ None = subst (λ k. f k z ≡ None) here (h 0 z (omega arith) refl) in
    let more : (j : ℕ) → i + suc j ≡ suc i + j = λ j. omega arith in
    ap (λ o. option_or o (first_from f (suc i) xs)) first
    ∙ first_some f (suc i) xs k x v at (subst (λ k. f k x ≡ Some v) (more k) e)
    (λ j y lt at. subst (λ k. f k y ≡ None) (more j) (h (suc j) y (omega (arith, lt)) at))

-- no item has a result
pub nothing_first : {A B : Type 0} (f : ℕ → A → Option B) (xs : List A) → ((k : ℕ) (x : A) → slice_get xs k ≡ Some x → f k x ≡ None)
    → first_from f 0 xs ≡ None
nothing_first f xs h =
    first_none f 0 xs (λ k x at. let here : k ≡ 0 + k = omega arith in subst (λ j. f j x ≡ None) here (h k x at))

-- the first item with a result
pub record First {A B : Type 0} (f : ℕ → A → Option B) (xs : List A) (v : B) : Type 0 where
  pub index : ℕ
  pub item : A
  pub here : slice_get xs index ≡ Some item
  pub gives : f index item ≡ Some v
  pub earlier : (j : ℕ) (y : A) → j < index → slice_get xs j ≡ Some y → f j y ≡ None

-- the result of the first item with a result is what a search gives
pub first_is : {A B : Type 0} (f : ℕ → A → Option B) (xs : List A) (v : B) → First f xs v → first_from f 0 xs ≡ Some v
first_is f xs v h =
    let here : (k : ℕ) → k ≡ 0 + k = λ k. omega arith in
    first_some f 0 xs h.index h.item v h.here (subst (λ j. f j h.item ≡ Some v) (here h.index) h.gives)
    (λ j y lt at. subst (λ k. f k y ≡ None) (here j) (h.earlier j y lt at))

-- either no item has a result, or there is a first one
pub data Search {A B : Type 0} (f : ℕ → A → Option B) (xs : List A) : Type 0 where
  fails : ((k : ℕ) (x : A) → slice_get xs k ≡ Some x → f k x ≡ None) → Search f xs
  finds : (v : B) → First f xs v → Search f xs

no_more : {A B : Type 0} (f : ℕ → A → Option B) (x : A) (xs : List A) → f 0 x ≡ None
    → ((k : ℕ) (y : A) → slice_get xs k ≡ Some y → f (suc k) y ≡ None) → (k : ℕ) (y : A) → slice_get (x ∷ xs) k ≡ Some y → f k y ≡ None
no_more f x xs e h zero y at = subst (λ z. f 0 z ≡ None) (same_Some x y at) e
no_more f x xs e h (suc k) y at = h k y at

none_earlier : {A B : Type 0} (f : ℕ → A → Option B) (x : A) (xs : List A) (n : ℕ) → f 0 x ≡ None
    → ((j : ℕ) (y : A) → j < n → slice_get xs j ≡ Some y → f (suc j) y ≡ None)
    → (j : ℕ) (y : A) → j < suc n → slice_get (x ∷ xs) j ≡ Some y → f j y ≡ None
none_earlier f x xs n e h zero y lt at = subst (λ z. f 0 z ≡ None) (same_Some x y at) e
none_earlier f x xs n e h (suc j) y lt at = h j y (omega arith) at

-- a search item by item
pub search_first : {A B : Type 0} (f : ℕ → A → Option B) (xs : List A) → Search f xs
search_first f [] = fails (λ k x at. absurd cc)
search_first {A = A} {B = B} f (x ∷ xs) =
    let go : (o : Option B) → f 0 x ≡ o → Search f (x ∷ xs) =
    λ o. elim o as (λ o. f 0 x ≡ o → Search f (x ∷ xs)) [
      | None ↦ λ e.
          elim (search_first (λ k. f (suc k)) xs) [
            | fails h ↦ fails (no_more f x xs e h)
            | finds v h ↦ finds v (record {
              index = suc h.index;
              item = h.item;
              here = h.here;
              gives = h.gives;
              earlier = none_earlier f x xs h.index e h.earlier;
            })
          ]
      | Some v ↦ λ e. finds v (record { index = 0; item = x; here = refl; gives = e; earlier = λ j y lt at. absurd (omega arith) })
    ] in
    go (f 0 x) refl
