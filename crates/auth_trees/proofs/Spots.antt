-- The nodes of trees in a row: their places, their children, and how many they are.
use Rattle.std.proofs.Common.{◌≡◌, ℕ, zero, suc, ◌+◌, ◌≤◌, List, [], ◌∷◌, ◌++◌, length, map, Some, option_and_then, slice_get, inl, inr, refl, sym, ap, ap₂, ◌∙◌, subst, arith}
use Rattle.std.proofs.lemmas.List.{map-append, length-map}
use Rattle.std.proofs.lemmas.Option.{same_Some}
use Rattle.auth_types.specs.Tree.{Tree, Trees, node, no_trees, trees, trees_of, list_of_trees, size, trees_size}
use Rattle.auth_types.specs.InvocationLaws.{trees_there}
use Rattle.auth_spec.specs.Demands.{children, node_at}
use Rattle.auth_trees.specs.Listed.{Spot, below, first, next, listed, listed_row, Kept, kept_of, nodes_of, nodes_of_row}
use Rattle.auth_trees.specs.Flat.{IsRowAt}
use Rattle.auth_trees.proofs.Lists.{map_map, get_split, get_map, get_map_some}
use Rattle.list_laws.proofs.Lemmas.{get_left, get_right}
use Rattle.auth_trees.proofs.Listing.{length-nodes_of, length-nodes_of_row}

-- ---- what is kept of them, and how many they are

mutual
  unfolding listed listed_row nodes_of nodes_of_row

  pub kept_listed : (t : Tree) → map (λ x. kept_of x.1) (listed t) ≡ nodes_of t
  kept_listed (node f ts) = ap (λ (ks : List Kept). kept_of (node f ts) ∷ ks) (map_map (λ x. kept_of x.1) below (listed_row ts) ∙ kept_row ts)

  pub kept_row : (ts : Trees) → map (λ s. kept_of s.tree) (listed_row ts) ≡ nodes_of_row ts
  kept_row no_trees = refl
  kept_row (trees t ts) =
      map-append (λ (s : Spot). kept_of s.tree) (map first (listed t)) (map next (listed_row ts))
      ∙ ap₂ (λ (x y : List Kept). x ++ y) (map_map (λ (s : Spot). kept_of s.tree) first (listed t) ∙ kept_listed t) (map_map (λ (s : Spot). kept_of s.tree) next (listed_row ts) ∙ kept_row ts)

length-listed : (t : Tree) → length (map first (listed t)) ≡ size t
length-listed t =
    length-map (listed t) first ∙ sym (length-map (listed t) (λ (x : List ℕ × Tree). kept_of x.1)) ∙ ap length (kept_listed t) ∙ length-nodes_of t

pub length-listed_row : (ts : Trees) → length (listed_row ts) ≡ trees_size ts
length-listed_row ts = sym (length-map (listed_row ts) (λ (s : Spot). kept_of s.tree)) ∙ ap length (kept_row ts) ∙ length-nodes_of_row ts

-- ---- a node's tree is within the trees

mutual
  unfolding listed listed_row

  fits_tree : (t : Tree) (g : ℕ) (x : List ℕ × Tree) → slice_get (listed t) g ≡ Some x → g + size x.1 ≤ size t
  fits_tree (node f ts) zero x e = let same : size (node f ts) ≡ size x.1 = ap (λ (y : List ℕ × Tree). size y.1) (same_Some ([], node f ts) x e) in omega arith
  fits_tree (node f ts) (suc g) x e =
      let s = get_map_some below (listed_row ts) g x e in
      let same : size s.0.tree ≡ size x.1 = ap (λ (y : List ℕ × Tree). size y.1) s.2 in
      omega (arith, fits_row ts g s.0 s.1)

  fits_row : (ts : Trees) (g : ℕ) (s : Spot) → slice_get (listed_row ts) g ≡ Some s → g + size s.tree ≤ trees_size ts
  fits_row no_trees g s e = absurd cc
  fits_row (trees t ts) g s e =
      elim (get_split (map first (listed t)) (map next (listed_row ts)) g s e) [
        | inl h ↦
            let x = get_map_some first (listed t) g s h in
            let same : size x.0.1 ≡ size s.tree = ap (λ (y : Spot). size y.tree) x.2 in
            omega (arith, fits_tree t g x.0 x.1)
        | inr h ↦
            let x = get_map_some next (listed_row ts) h.0 s h.2 in
            let same : size x.0.tree ≡ size s.tree = ap (λ (y : Spot). size y.tree) x.2 in
            omega (arith, fits_row ts h.0 x.0 x.1, h.1, length-listed t)
      ]

-- ---- trees in a row, each with its index in the row and the index of its first node

abbrev pub Row : (ℕ → ℕ → Tree → Type 0) → ℕ → ℕ → List Tree → Type 0
Row P j id [] = Unit {0}
Row P j id (t ∷ ts) = P j id t × Row P (suc j) (id + size t) ts

moved : (P Q : ℕ → ℕ → Tree → Type 0) (a c : ℕ) → ((j id j' id' : ℕ) (t : Tree) → j' ≡ a + j → id' ≡ c + id → P j id t → Q j' id' t)
    → (j id j' id' : ℕ) (ts : List Tree) → j' ≡ a + j → id' ≡ c + id → Row P j id ts → Row Q j' id' ts
moved P Q a c f j id j' id' [] ej eid h = tt
moved P Q a c f j id j' id' (t ∷ ts) ej eid h =
    (f j id j' id' t ej eid h.0, moved P Q a c f (suc j) (id + size t) (suc j') (id' + size t) ts (omega arith) (omega arith) h.1)

abbrev pub RootAt : List Spot → ℕ → ℕ → Tree → Type 0
RootAt spots j id t = slice_get spots id ≡ Some (record { entry = j; place = []; tree = t })

abbrev pub ChildAt : List Spot → ℕ → List ℕ → ℕ → ℕ → Tree → Type 0
ChildAt spots entry parent j id t = slice_get spots id ≡ Some (record { entry = entry; place = parent ++ j ∷ []; tree = t })

abbrev PlaceAt : List (List ℕ × Tree) → List ℕ → ℕ → ℕ → Tree → Type 0
PlaceAt places parent j id t = slice_get places id ≡ Some (parent ++ j ∷ [], t)

in_first : (t : Tree) (ts : Trees) (id : ℕ) (x : List ℕ × Tree) → slice_get (listed t) id ≡ Some x → slice_get (listed_row (trees t ts)) id ≡ Some (first x)
unfolding listed_row
in_first t ts id x e = get_left (map first (listed t)) (map next (listed_row ts)) id (first x) (get_map first (listed t) id x e)

in_next : (t : Tree) (ts : Trees) (id id' : ℕ) (s : Spot) → id' ≡ size t + id → slice_get (listed_row ts) id ≡ Some s → slice_get (listed_row (trees t ts)) id' ≡ Some (next s)
unfolding listed_row
in_next t ts id id' s eid e =
    get_right (map first (listed t)) (map next (listed_row ts)) id' id (omega (arith, eid, length-listed t)) ∙ get_map next (listed_row ts) id s e

in_below : (f : _) (ts : Trees) (id id' : ℕ) (s : Spot) → id' ≡ 1 + id → slice_get (listed_row ts) id ≡ Some s → slice_get (listed (node f ts)) id' ≡ Some (below s)
unfolding listed
in_below f ts id id' s eid e = let g : id' ≡ suc id = omega arith in rw g (get_map below (listed_row ts) id s e)

root_of : (t : Tree) → slice_get (listed t) 0 ≡ Some ([], t)
unfolding listed
root_of (node f ts) = refl

pub roots_at : (ts : Trees) → Row (RootAt (listed_row ts)) 0 0 (list_of_trees ts)
roots_at no_trees = tt
roots_at (trees t ts) = (
  in_first t ts 0 ([], t) (root_of t),
  moved (RootAt (listed_row ts)) (RootAt (listed_row (trees t ts))) 1 (size t)
      (λ j id j' id' u ej eid h. let s : j' ≡ suc j = omega arith in rw s (in_next t ts id id' _ eid h))
      0 0 1 (0 + size t) (list_of_trees ts) (omega arith) (omega arith) (roots_at ts),
)

mutual
  unfolding listed listed_row

  children_of : (t : Tree) (g : ℕ) (x : List ℕ × Tree) → slice_get (listed t) g ≡ Some x → Row (PlaceAt (listed t) x.0) 0 (suc g) (children x.1)
  children_of (node f ts) zero x e =
      let P : List ℕ × Tree → Type 0 = λ y. Row (PlaceAt (listed (node f ts)) y.0) 0 1 (children y.1) in
      subst P (same_Some ([], node f ts) x e)
      (moved (RootAt (listed_row ts)) (PlaceAt (listed (node f ts)) []) 0 1
      (λ j id j' id' u ej eid h. let s : j' ≡ j = omega arith in rw s (in_below f ts id id' _ eid h))
      0 0 0 1 (list_of_trees ts) (omega arith) (omega arith) (roots_at ts))
  children_of (node f ts) (suc g) x e =
      let s = get_map_some below (listed_row ts) g x e in
      let P : List ℕ × Tree → Type 0 = λ y. Row (PlaceAt (listed (node f ts)) y.0) 0 (suc (suc g)) (children y.1) in
      subst P s.2
      (moved (ChildAt (listed_row ts) s.0.entry s.0.place) (PlaceAt (listed (node f ts)) (s.0.entry ∷ s.0.place)) 0 1
      (λ j id j' id' u ej eid h. let k : j' ≡ j = omega arith in rw k (in_below f ts id id' _ eid h))
      0 (suc g) 0 (suc (suc g)) (children s.0.tree) (omega arith) (omega arith) (children_in ts g s.0 s.1))

  pub children_in : (ts : Trees) (g : ℕ) (s : Spot) → slice_get (listed_row ts) g ≡ Some s → Row (ChildAt (listed_row ts) s.entry s.place) 0 (suc g) (children s.tree)
  children_in no_trees g s e = absurd cc
  children_in (trees t ts) g s e =
      let P : Spot → Type 0 = λ y. Row (ChildAt (listed_row (trees t ts)) y.entry y.place) 0 (suc g) (children y.tree) in
      elim (get_split (map first (listed t)) (map next (listed_row ts)) g s e) [
        | inl h ↦
            let x = get_map_some first (listed t) g s h in
            subst P x.2
            (moved (PlaceAt (listed t) x.0.0) (ChildAt (listed_row (trees t ts)) 0 x.0.0) 0 0
            (λ j id j' id' u ej eid p. let k : j' ≡ j = omega arith in let i : id' ≡ id = omega arith in rw (k, i) (in_first t ts id _ p))
            0 (suc g) 0 (suc g) (children x.0.1) (omega arith) (omega arith) (children_of t g x.0 x.1))
        | inr h ↦
            let x = get_map_some next (listed_row ts) h.0 s h.2 in
            subst P x.2
            (moved (ChildAt (listed_row ts) x.0.entry x.0.place) (ChildAt (listed_row (trees t ts)) (suc x.0.entry) x.0.place) 0 (size t)
            (λ j id j' id' u ej eid p. let k : j' ≡ j = omega arith in rw k (in_next t ts id id' _ eid p))
            0 (suc h.0) 0 (suc g) (children x.0.tree) (omega arith) (omega (arith, h.1, length-listed t)) (children_in ts h.0 x.0 x.1))
      ]

-- ---- a place has one index

mutual
  index : Tree → List ℕ → ℕ
  index (node f ts) [] = 0
  index (node f ts) (k ∷ ks) = suc (index_in ts k ks)

  index_in : Trees → ℕ → List ℕ → ℕ
  index_in no_trees k ks = 0
  index_in (trees t ts) zero ks = index t ks
  index_in (trees t ts) (suc k) ks = size t + index_in ts k ks

mutual
  unfolding listed listed_row index index_in

  index_of : (t : Tree) (g : ℕ) (x : List ℕ × Tree) → slice_get (listed t) g ≡ Some x → index t x.0 ≡ g
  index_of (node f ts) zero x e =
      let P : List ℕ × Tree → Type 0 = λ y. index (node f ts) y.0 ≡ 0 in subst P (same_Some ([], node f ts) x e) refl
  index_of (node f ts) (suc g) x e =
      let s = get_map_some below (listed_row ts) g x e in
      let P : List ℕ × Tree → Type 0 = λ y. index (node f ts) y.0 ≡ suc g in
      subst P s.2 (ap suc (index_of_in ts g s.0 s.1))

  index_of_in : (ts : Trees) (g : ℕ) (s : Spot) → slice_get (listed_row ts) g ≡ Some s → index_in ts s.entry s.place ≡ g
  index_of_in no_trees g s e = absurd cc
  index_of_in (trees t ts) g s e =
      let P : Spot → Type 0 = λ y. index_in (trees t ts) y.entry y.place ≡ g in
      elim (get_split (map first (listed t)) (map next (listed_row ts)) g s e) [
        | inl h ↦ let x = get_map_some first (listed t) g s h in subst P x.2 (index_of t g x.0 x.1)
        | inr h ↦
            let x = get_map_some next (listed_row ts) h.0 s h.2 in
            let there : size t + index_in ts x.0.entry x.0.place ≡ g = omega (arith, index_of_in ts h.0 x.0 x.1, h.1, length-listed t) in
            subst P x.2 there
      ]

pub one_index : (ts : Trees) (g h : ℕ) (s u : Spot) → slice_get (listed_row ts) g ≡ Some s → slice_get (listed_row ts) h ≡ Some u
    → s.entry ≡ u.entry → s.place ≡ u.place → g ≡ h
one_index ts g h s u e f same_entry same_place = sym (index_of_in ts g s e) ∙ ap₂ (index_in ts) same_entry same_place ∙ index_of_in ts h u f

-- ---- the node at a place

mutual
  unfolding listed listed_row

  there_in_tree : (t : Tree) (g : ℕ) (x : List ℕ × Tree) → slice_get (listed t) g ≡ Some x → node_at t x.0 ≡ Some x.1
  there_in_tree (node f ts) zero x e =
      let P : List ℕ × Tree → Type 0 = λ y. node_at (node f ts) y.0 ≡ Some y.1 in subst P (same_Some ([], node f ts) x e) refl
  there_in_tree (node f ts) (suc g) x e =
      let s = get_map_some below (listed_row ts) g x e in
      let P : List ℕ × Tree → Type 0 = λ y. node_at (node f ts) y.0 ≡ Some y.1 in
      subst P s.2 (there ts g s.0 s.1)

  pub there : (ts : Trees) (g : ℕ) (s : Spot) → slice_get (listed_row ts) g ≡ Some s
      → option_and_then (λ root. node_at root s.place) (slice_get (list_of_trees ts) s.entry) ≡ Some s.tree
  there no_trees g s e = absurd cc
  there (trees t ts) g s e =
      let P : Spot → Type 0 = λ y. option_and_then (λ root. node_at root y.place) (slice_get (list_of_trees (trees t ts)) y.entry) ≡ Some y.tree in
      elim (get_split (map first (listed t)) (map next (listed_row ts)) g s e) [
        | inl h ↦ let x = get_map_some first (listed t) g s h in subst P x.2 (there_in_tree t g x.0 x.1)
        | inr h ↦ let x = get_map_some next (listed_row ts) h.0 s h.2 in subst P x.2 (there ts h.0 x.0 x.1)
      ]

-- ---- rows of kept nodes

pub kept_at : (ts : Trees) (id : ℕ) (s : Spot) → slice_get (listed_row ts) id ≡ Some s → slice_get (nodes_of_row ts) id ≡ Some (kept_of s.tree)
kept_at ts id s e = subst (λ (ks : List Kept). slice_get ks id ≡ Some (kept_of s.tree)) (kept_row ts) (get_map (λ (s : Spot). kept_of s.tree) (listed_row ts) id s e)

pub is_row : (ts : Trees) (P : ℕ → ℕ → Tree → Type 0) → ((j id : ℕ) (t : Tree) → P j id t → (s : Spot) × (slice_get (listed_row ts) id ≡ Some s) × (s.tree ≡ t))
    → (j id : ℕ) (us : List Tree) → Row P j id us → IsRowAt (nodes_of_row ts) id us
is_row ts P at j id [] h = tt
is_row ts P at j id (u ∷ us) h =
    let s = at j id u h.0 in
    let here : slice_get (nodes_of_row ts) id ≡ Some (kept_of u) = subst (λ (t : Tree). slice_get (nodes_of_row ts) id ≡ Some (kept_of t)) s.2 (kept_at ts id s.0 s.1) in
    let fits : id + size u ≤ length (nodes_of_row ts) =
    subst (λ (t : Tree). id + size t ≤ length (nodes_of_row ts)) s.2 (omega (arith, fits_row ts id s.0 s.1, length-nodes_of_row ts)) in
    (here, fits, is_row ts P at (suc j) (id + size u) us h.1)

pub roots_row : (ts : List Tree) → IsRowAt (nodes_of_row (trees_of ts)) 0 ts
roots_row ts =
    let us = trees_of ts in
    subst (λ (xs : List Tree). IsRowAt (nodes_of_row us) 0 xs) (trees_there ts)
    (is_row us (RootAt (listed_row us)) (λ j id t h. (record { entry = j; place = []; tree = t }, h, refl)) 0 0 (list_of_trees us) (roots_at us))

-- the children of each node stand behind it
pub children_row : (ts : Trees) (id : ℕ) (k : Kept) → slice_get (nodes_of_row ts) id ≡ Some k → IsRowAt (nodes_of_row ts) (suc id) (children k.tree)
children_row ts id k e =
    let s = get_map_some (λ (s : Spot). kept_of s.tree) (listed_row ts) id k (subst (λ (ks : List Kept). slice_get ks id ≡ Some k) (sym (kept_row ts)) e) in
    subst (λ (x : Kept). IsRowAt (nodes_of_row ts) (suc id) (children x.tree)) s.2
    (is_row ts (ChildAt (listed_row ts) s.0.entry s.0.place) (λ j i t h. (record { entry = s.0.entry; place = s.0.place ++ j ∷ []; tree = t }, h, refl)) 0 (suc id) (children s.0.tree)
    (children_in ts id s.0 s.1))
