-- The node that a recorder finds gives the place of the new node.
use Rattle.std.proofs.Common.{◌≡◌, ◌≢◌, ℕ, zero, suc, ◌+◌, ◌<◌, ◌≤◌, ◌^◌, Bool, true, false, cond, ◌&&◌, eqb, List, [], ◌∷◌, ◌++◌, length, filter, fold, Option, Some, None, option_map, slice_get, nat_lt, length-append, ◌⊎◌, inl, inr, refl, sym, ap, ◌∙◌, subst, arith}
use Rattle.std.specs.List.{AllByRecursion}
use Rattle.std.specs.Option.{option_or, unwrap_or}
use Rattle.std.proofs.lemmas.Option.{same_Some}
use Rattle.std.proofs.lemmas.List.Folds.{fold-map}
use Rattle.std.proofs.lemmas.List.Elements.{filter-append}
use Rattle.std.proofs.lemmas.List.{length-map}
use Rattle.auth_notes.specs.declared.noted.Noted.{Noted}
use Rattle.std.proofs.lemmas.Bool.{cond_both, le-ltb, lt-ltb}
use Rattle.std.proofs.lemmas.Bool.Decides.{Decides-eqb}
use Rattle.value_types.specs.Equality.{is_same_decides}
use Rattle.value_types.specs.declared.address.ScAddress.{ScAddress}
use Rattle.invoke_types.specs.declared.function.Function.{Function}
use Rattle.auth_spec.specs.Pairs.{Pair, is_below, deeper, deepest}
use Rattle.auth_spec.specs.Demands.{coded_address, same_address, first_from, is_root, ByNote, ByNothing}
use Rattle.auth_spec.specs.Noted.{Note, MOST_LEVELS, pairs_in, roots_in, last_child, below_noted, new_place, noted_at}
use Rattle.auth_notes.specs.Recording.{note_of, notes_of, HasRoot, AreTrees, stays, better, best_of, best, place_by, note_by, new_note, trees_with}
use Rattle.list_laws.proofs.Lemmas.{get_left, get_right, all_push, all_same}
use Rattle.auth_trees.proofs.Lemmas.{same_or_not}
use Rattle.auth_notes.proofs.Joining.{stays_by, yields_by}

-- ---- a fold over a filtered list

fold_filter : {A B : Type 0} (f : B → A → B) (p : A → Bool) (b : B) (xs : List A) → fold f b (filter p xs) ≡ fold (λ b x. cond (p x) (f b x) b) b xs
fold_filter f p b [] = refl
fold_filter f p b (x ∷ xs) =
    elim (p x) as (λ t. fold f b (cond t (x ∷ filter p xs) (filter p xs)) ≡ fold (λ b x. cond (p x) (f b x) b) (cond t (f b x) b) xs) [
      | true ↦ fold_filter f p (f b x) xs
      | false ↦ fold_filter f p b xs
    ]

abbrev deep_by : Bool → Pair → ℕ → Option Pair → Option Pair
deep_by b p t o = cond (eqb p.entry t && b) (deeper o p) o

abbrev deep_of : List ℕ → ℕ → Option Pair → Note → Option Pair
deep_of path t o n = deep_by (is_below path n.pair.path) n.pair t o

deepest_fold : (notes : List Note) (path : List ℕ) (t : ℕ) → deepest (pairs_in notes) path t ≡ fold (deep_of path t) None notes
deepest_fold notes path t =
    fold_filter deeper (λ p. eqb p.entry t && is_below path p.path) None (pairs_in notes)
    ∙ fold-map (λ (o : Option Pair) p. cond (eqb p.entry t && is_below path p.path) (deeper o p) o) (λ (n : Note). n.pair) None notes

-- ---- the best node is the deepest one of the first tree

-- the trees of an address, the deepest node in each tree, and the best node
abbrev IsBest : (ℕ → Bool) → (ℕ → Option Pair) → Option Pair → Type 0
IsBest A D None = (t : ℕ) → A t ≡ true → D t ≡ None
IsBest A D (Some p) = (A p.entry ≡ true) × (D p.entry ≡ Some p) × ((t : ℕ) → t < p.entry → A t ≡ true → D t ≡ None)

best_same : (A : ℕ → Bool) (D E : ℕ → Option Pair) (o : Option Pair) → ((t : ℕ) → A t ≡ true → E t ≡ D t) → IsBest A D o → IsBest A E o
best_same A D E None same h = λ t a. same t a ∙ h t a
best_same A D E (Some p) same h = (h.0, same p.entry h.0 ∙ h.1, λ t lt a. same t a ∙ h.2 t lt a)

deep_off : (p : Pair) (t : ℕ) (o : Option Pair) → deep_by false p t o ≡ o
deep_off p t o = elim (eqb p.entry t) as (λ b. cond (b && false) (deeper o p) o ≡ o) [ true ↦ refl | false ↦ refl ]

deep_on : (p : Pair) (o : Option Pair) → deep_by true p p.entry o ≡ deeper o p
deep_on p o = ap (λ b. cond (b && true) (deeper o p) o) ((Decides-eqb p.entry p.entry).1 refl)

deep_other : (p : Pair) (t : ℕ) (o : Option Pair) → p.entry ≢ t → deep_by true p t o ≡ o
deep_other p t o apart =
    elim (same_or_not p.entry t) [
      | inl s ↦ absurd (apart s.1)
      | inr s ↦ ap (λ b. cond (b && true) (deeper o p) o) s.0
    ]

better_none : (A : ℕ → Bool) (D : ℕ → Option Pair) (p : Pair) → A p.entry ≡ true → ((t : ℕ) → A t ≡ true → D t ≡ None) → IsBest A (λ t. deep_by true p t (D t)) (Some p)
better_none A D p a h =
    (a, deep_on p (D p.entry) ∙ ap (λ o. deeper o p) (h p.entry a), λ t lt at. let apart : p.entry ≢ t = omega (arith, lt) in deep_other p t (D t) apart ∙ h t at)

better_some : (A : ℕ → Bool) (D : ℕ → Option Pair) (q p : Pair) → A p.entry ≡ true → IsBest A D (Some q) → IsBest A (λ t. deep_by true p t (D t)) (better (Some q) p)
better_some A D q p a h =
    cond_both (stays q p) (Some q) (Some p) (IsBest A (λ t. deep_by true p t (D t))) (λ s.
    let first = stays_by q p s in
    let deep : deep_by true p q.entry (D q.entry) ≡ Some q = elim (same_or_not q.entry p.entry) [
      | inl e ↦
          ap (λ t. deep_by true p t (D q.entry)) e.1 ∙ deep_on p (D q.entry) ∙ ap (λ o. deeper o p) h.1
          ∙ ap (λ b. cond b (Some q) (Some p)) (lt-ltb (length p.path) (length q.path) (first.1 e.1))
      | inr e ↦ deep_other p q.entry (D q.entry) (λ f. e.1 (sym f)) ∙ h.1
    ] in
    (h.0, deep, λ t less at. let apart : p.entry ≢ t = omega (arith, less, first.0) in deep_other p t (D t) apart ∙ h.2 t less at))
    (λ s.
    let first = yields_by q p s in
    let deep : deeper (D p.entry) p ≡ Some p = elim (same_or_not q.entry p.entry) [
      | inl e ↦ ap (λ o. deeper o p) (ap D (sym e.1) ∙ h.1) ∙ ap (λ b. cond b (Some q) (Some p)) (le-ltb (length p.path) (length q.path) (first.1 e.1))
      | inr e ↦ let apart : q.entry ≢ p.entry = e.1 in let less : p.entry < q.entry = omega (arith, first.0, apart) in ap (λ o. deeper o p) (h.2 p.entry less a)
    ] in (
      a,
      deep_on p (D p.entry) ∙ deep,
      λ t less at. let apart : p.entry ≢ t = omega (arith, less) in let far : t < q.entry = omega (arith, less, first.0) in deep_other p t (D t) apart ∙ h.2 t far at,
    ))

step_by : (a b : Bool) (A : ℕ → Bool) (D : ℕ → Option Pair) (o : Option Pair) (p : Pair) → a ≡ A p.entry → IsBest A D o
    → IsBest A (λ t. deep_by b p t (D t)) (cond (a && b) (better o p) o)
step_by true false A D o p e h = best_same A D (λ t. deep_by false p t (D t)) o (λ t at. deep_off p t (D t)) h
step_by false false A D o p e h = best_same A D (λ t. deep_by false p t (D t)) o (λ t at. deep_off p t (D t)) h
step_by false true A D o p e h =
    best_same A D (λ t. deep_by true p t (D t)) o (λ t at.
    let apart : p.entry ≢ t = λ s. absurd (let f : A t ≡ false = ap A (sym s) ∙ sym e in cc) in
    deep_other p t (D t) apart) h
step_by true true A D None p e h = better_none A D p (sym e) h
step_by true true A D (Some q) p e h = better_some A D q p (sym e) h

along : (A : ℕ → Bool) (path : List ℕ) (address : ScAddress) (notes : List Note) → AllByRecursion (λ n. same_address n.address address ≡ A n.pair.entry) notes
    → (D : ℕ → Option Pair) (o : Option Pair) → IsBest A D o → IsBest A (λ t. fold (deep_of path t) (D t) notes) (fold (best_of path address) o notes)
along A path address [] all D o h = h
along A path address (n ∷ notes) all D o h =
    along A path address notes all.1 (λ t. deep_of path t (D t) n) (best_of path address o n)
    (step_by (same_address n.address address) (is_below path n.pair.path) A D o n.pair all.0 h)

-- ---- the trees of an address

abbrev is_of : ScAddress → Option Note → Bool
is_of address None = false
is_of address (Some r) = same_address r.address address

abbrev tree_of : List Note → ScAddress → ℕ → Bool
tree_of notes address t = is_of address (slice_get (roots_in notes) t)

root_of : (o : Option Note) (a : ScAddress) → option_map (λ r. r.address) o ≡ Some a → (r : Note) × (o ≡ Some r) × (r.address ≡ a)
root_of None a h = absurd cc
root_of (Some r) a h = (r, refl, same_Some r.address a h)

of_root : (address : ScAddress) (o : Option Note) → is_of address o ≡ true → (r : Note) × (o ≡ Some r) × (same_address r.address address ≡ true)
of_root address None h = absurd cc
of_root address (Some r) h = (r, refl, h)

trees_fit : (notes : List Note) (address : ScAddress) (n : Note) → HasRoot notes n → same_address n.address address ≡ tree_of notes address n.pair.entry
trees_fit notes address n h =
    let r = root_of (slice_get (roots_in notes) n.pair.entry) n.address h in
    sym (ap (is_of address) r.1 ∙ ap (λ a. same_address a address) r.2)

best_is : (notes : List Note) (path : List ℕ) (address : ScAddress) → AllByRecursion (HasRoot notes) notes
    → IsBest (tree_of notes address) (deepest (pairs_in notes) path) (best notes path address)
best_is notes path address all =
    let A = tree_of notes address in
    let each = all_same (HasRoot notes) (λ n. same_address n.address address ≡ A n.pair.entry) (trees_fit notes address) notes all in
    best_same A (λ t. fold (deep_of path t) None notes) (deepest (pairs_in notes) path) (best notes path address) (λ t a. deepest_fold notes path t)
    (along A path address notes each (λ t. None) None (λ t a. refl))

-- ---- the first of a list

none_first : {A B : Type 0} (f : ℕ → A → Option B) (i : ℕ) (xs : List A) → ((k : ℕ) (x : A) → slice_get xs k ≡ Some x → f (i + k) x ≡ None) → first_from f i xs ≡ None
none_first f i [] h = refl
none_first f i (x ∷ xs) h =
    let here : i + 0 ≡ i = omega arith in
    let first : f i x ≡ None = subst (λ k. f k x ≡ None) here (h 0 x refl) in
    ap (λ o. option_or o (first_from f (suc i) xs)) first
    ∙ none_first f (suc i) xs (λ k y at. let more : i + suc k ≡ suc i + k = omega arith in subst (λ k. f k y ≡ None) more (h (suc k) y at))

some_first : {A B : Type 0} (f : ℕ → A → Option B) (i : ℕ) (xs : List A) (k : ℕ) (x : A) (v : B) → slice_get xs k ≡ Some x → f (i + k) x ≡ Some v
    → ((j : ℕ) (y : A) → j < k → slice_get xs j ≡ Some y → f (i + j) y ≡ None) → first_from f i xs ≡ Some v
some_first f i [] k x v at e h = absurd cc
some_first f i (z ∷ xs) zero x v at e h =
    let here : i + 0 ≡ i = omega arith in
    let first : f i z ≡ Some v = subst (λ k. f k z ≡ Some v) here (subst (λ y. f (i + 0) y ≡ Some v) (sym (same_Some z x at)) e) in
    ap (λ o. option_or o (first_from f (suc i) xs)) first
some_first f i (z ∷ xs) (suc k) x v at e h =
    let here : i + 0 ≡ i = omega arith in
    let first : f i z ≡ None = subst (λ k. f k z ≡ None) here (h 0 z (omega arith) refl) in
    let more : (j : ℕ) → i + suc j ≡ suc i + j = λ j. omega arith in
    ap (λ o. option_or o (first_from f (suc i) xs)) first
    ∙ some_first f (suc i) xs k x v at (subst (λ k. f k x ≡ Some v) (more k) e)
    (λ j y lt at. subst (λ k. f k y ≡ None) (more j) (h (suc j) y (omega (arith, lt)) at))

-- ---- the place

below_none : (notes : List Note) (path : List ℕ) (address : ScAddress) (t : ℕ) (r : Note) → (same_address r.address address ≡ true → deepest (pairs_in notes) path t ≡ None)
    → below_noted notes path address t r ≡ None
below_none notes path address t r h =
    let found = option_map (last_child notes) (deepest (pairs_in notes) path t) in
    cond_both (same_address r.address address) found None (λ o. o ≡ None) (λ e. ap (option_map (last_child notes)) (h e)) (λ e. refl)

place_is : (notes : List Note) (path : List ℕ) (address : ScAddress) (o : Option Pair) → IsBest (tree_of notes address) (deepest (pairs_in notes) path) o
    → new_place notes path address ≡ place_by notes o
place_is notes path address None h =
    ap (λ o. unwrap_or o (length (roots_in notes), []))
    (none_first (below_noted notes path address) 0 (roots_in notes) (λ k r at.
    let here : 0 + k ≡ k = omega arith in
    subst (λ t. below_noted notes path address t r ≡ None) (sym here) (below_none notes path address k r (λ s. h k (ap (is_of address) at ∙ s)))))
place_is notes path address (Some p) h =
    let r = of_root address (slice_get (roots_in notes) p.entry) h.0 in
    let here : (k : ℕ) → 0 + k ≡ k = λ k. omega arith in
    let found : below_noted notes path address p.entry r.0 ≡ Some (last_child notes p) =
    ap (λ b. cond b (option_map (last_child notes) (deepest (pairs_in notes) path p.entry)) None) r.2 ∙ ap (option_map (last_child notes)) h.1 in
    ap (λ o. unwrap_or o (length (roots_in notes), []))
    (some_first (below_noted notes path address) 0 (roots_in notes) p.entry r.0 (last_child notes p) r.1
    (subst (λ t. below_noted notes path address t r.0 ≡ Some (last_child notes p)) (sym (here p.entry)) found)
    (λ k s lt at.
    subst (λ t. below_noted notes path address t s ≡ None) (sym (here k)) (below_none notes path address k s (λ e. h.2 k lt (ap (is_of address) at ∙ e)))))

found_place : (notes : List Note) (trees : ℕ) (path : List ℕ) (address : ScAddress) → AreTrees notes trees → new_place notes path address ≡ place_by notes (best notes path address)
found_place notes trees path address h = place_is notes path address (best notes path address) (best_is notes path address h.addresses)

-- ---- one node more

-- the place is that of a new root, or is one in a tree of the address
abbrev Fits : List Note → ScAddress → ℕ × List ℕ → Type 0
Fits notes address place =
    (place ≡ (length (roots_in notes), []))
    ⊎ ((is_root place.1 ≡ false) × (option_map (λ (r : Note). r.address) (slice_get (roots_in notes) place.0) ≡ Some address))

not_root : (xs : List ℕ) (k : ℕ) → is_root (xs ++ k ∷ []) ≡ false
not_root [] k = refl
not_root (x ∷ xs) k = refl

fits_by : (notes : List Note) (path : List ℕ) (address : ScAddress) (o : Option Pair) → IsBest (tree_of notes address) (deepest (pairs_in notes) path) o → Fits notes address (place_by notes o)
fits_by notes path address None h = inl refl
fits_by notes path address (Some p) h =
    let r = of_root address (slice_get (roots_in notes) p.entry) h.0 in
    inr (not_root p.node _, ap (option_map (λ (r : Note). r.address)) r.1 ∙ ap Some ((is_same_decides coded_address r.0.address address).0 r.2))

fits : (notes : List Note) (trees : ℕ) (path : List ℕ) (address : ScAddress) → AreTrees notes trees → Fits notes address (new_place notes path address)
fits notes trees path address h =
    subst (Fits notes address) (sym (found_place notes trees path address h)) (fits_by notes path address (best notes path address) (best_is notes path address h.addresses))

has_more : (notes more : List Note) (n : Note) → option_map (λ r. r.address) (slice_get (roots_in notes) n.pair.entry) ≡ Some n.address
    → option_map (λ r. r.address) (slice_get (roots_in notes ++ more) n.pair.entry) ≡ Some n.address
has_more notes more n h =
    let r = root_of (slice_get (roots_in notes) n.pair.entry) n.address h in
    ap (option_map (λ (r : Note). r.address)) (get_left (roots_in notes) more n.pair.entry r.0 r.1) ∙ ap Some r.2

trees_at : (notes : List Note) (trees : ℕ) (n : Note) → AreTrees notes trees → Fits notes n.address (n.pair.entry, n.pair.node) → AreTrees (notes ++ n ∷ []) (trees_with trees n)
trees_at notes trees n h fit =
    let more : List Note = cond (is_root n.pair.node) (n ∷ []) [] in
    let split : roots_in (notes ++ n ∷ []) ≡ roots_in notes ++ more = filter-append (λ (n : Note). is_root n.pair.node) notes (n ∷ []) in
    let each : AllByRecursion (HasRoot (notes ++ n ∷ [])) notes =
    all_same (HasRoot notes) (HasRoot (notes ++ n ∷ [])) (λ m has. subst (λ rs. option_map (λ (r : Note). r.address) (slice_get rs m.pair.entry) ≡ Some m.address) (sym split) (has_more notes more m has)) notes h.addresses in
    let long : length (roots_in notes ++ more) ≡ length (roots_in notes) + length more = length-append (roots_in notes) more in
    elim fit [
      | inl e ↦
          let root : is_root n.pair.node ≡ true = ap (λ (place : ℕ × List ℕ). is_root place.1) e in
          let one : more ≡ n ∷ [] = ap (λ b. cond b (n ∷ []) []) root in
          let entry : n.pair.entry ≡ length (roots_in notes) + 0 = ap (λ (place : ℕ × List ℕ). place.0) e ∙ omega arith in
          let at : slice_get (roots_in notes ++ more) n.pair.entry ≡ Some n = get_right (roots_in notes) more n.pair.entry 0 entry ∙ ap (λ xs. slice_get xs 0) one in
          record {
            count = ap (λ b. cond b (trees + 1) trees) root ∙ ap (λ m. m + 1) h.count ∙ sym (ap length split ∙ long ∙ ap (λ (xs : List Note). length (roots_in notes) + length xs) one);
            addresses = all_push (HasRoot (notes ++ n ∷ [])) notes n each (ap (λ rs. option_map (λ (r : Note). r.address) (slice_get rs n.pair.entry)) split ∙ ap (option_map (λ (r : Note). r.address)) at);
          }
      | inr e ↦
          let none : more ≡ [] = ap (λ b. cond b (n ∷ []) []) e.0 in
          let none_more : length (roots_in notes) + 0 ≡ length (roots_in notes) = omega arith in
          record {
            count = ap (λ b. cond b (trees + 1) trees) e.0 ∙ h.count ∙ sym (ap length split ∙ long ∙ ap (λ (xs : List Note). length (roots_in notes) + length xs) none ∙ none_more);
            addresses = all_push (HasRoot (notes ++ n ∷ [])) notes n each (ap (λ rs. option_map (λ (r : Note). r.address) (slice_get rs n.pair.entry)) split ∙ has_more notes more n e.1);
          }
    ]

-- the node of a demand that is noted
noted_is : (path : List ℕ) (address : ScAddress) (function : Function) (place : ℕ × List ℕ) (n : Note) → note_by path address function (noted_at place) ≡ Some n
    → n ≡ record { address = address; function = function; pair = record { entry = place.0; node = place.1; path = path } }
noted_is path address function place n =
    let made : Note = record { address = address; function = function; pair = record { entry = place.0; node = place.1; path = path } } in
    cond_both (nat_lt (length place.1) MOST_LEVELS) (ByNote place.0 place.1) ByNothing (λ c. note_by path address function c ≡ Some n → n ≡ made)
    (λ t e. sym (same_Some made n e)) (λ f e. absurd cc)

pub trees_more : (notes : List Note) (trees : ℕ) (path : List ℕ) (address : ScAddress) (function : Function) (n : Note) → AreTrees notes trees → new_note notes path address function ≡ Some n
    → AreTrees (notes ++ n ∷ []) (trees_with trees n)
trees_more notes trees path address function n h e =
    let is = noted_is path address function (new_place notes path address) n e in
    trees_at notes trees n h (subst (λ (m : Note). Fits notes m.address (m.pair.entry, m.pair.node)) (sym is) (fits notes trees path address h))

-- ---- the place by what was found

pub place_none : (notes : List Note) (trees : ℕ) (path : List ℕ) (address : ScAddress) → AreTrees notes trees → best notes path address ≡ None → (trees, []) ≡ new_place notes path address
place_none notes trees path address h e =
    ap (λ (n : ℕ). (n, [])) h.count ∙ sym (found_place notes trees path address h ∙ ap (place_by notes) e)

pub place_some : (notes : List Note) (trees : ℕ) (path : List ℕ) (address : ScAddress) (p : Pair) → AreTrees notes trees → best notes path address ≡ Some p
    → last_child notes p ≡ new_place notes path address
place_some notes trees path address p h e = sym (found_place notes trees path address h ∙ ap (place_by notes) e)

-- ---- the number of trees

few_roots : (notes : List Note) → length (roots_in notes) ≤ length notes
few_roots [] = omega arith
few_roots (n ∷ notes) =
    let rest = few_roots notes in
    elim (is_root n.pair.node) as (λ b. length (cond b (n ∷ roots_in notes) (roots_in notes)) ≤ suc (length notes)) [ true ↦ omega (arith, rest) | false ↦ omega (arith, rest) ]

pub few_trees : (ns : List Noted) (trees most : ℕ) → AreTrees (notes_of ns) trees → length ns ≤ most → most < 2 ^ 63 → trees + 1 < 2 ^ 64
few_trees ns trees most h long few =
    let same : length (notes_of ns) ≡ length ns = length-map ns note_of in
    omega (arith, h.count, few_roots (notes_of ns), same, long, few)

pub note_address : (notes : List Note) (path : List ℕ) (address : ScAddress) (function : Function) (n : Note) → new_note notes path address function ≡ Some n → n.address ≡ address
note_address notes path address function n e = ap (λ (m : Note). m.address) (noted_is path address function (new_place notes path address) n e)
