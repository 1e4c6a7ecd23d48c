-- How the nodes of entries are listed.
use Rattle.std.proofs.Common.{◌≡◌, ℕ, suc, ◌+◌, ◌-◌, ◌<◌, List, [], ◌∷◌, ◌++◌, length, map, take, set, get_or, refl, sym, ap, ap₂, ◌∙◌, append_assoc, arith}
use Rattle.std.proofs.lemmas.List.{append-nil, map_more, map-set, map-append, set_at, length-append, length-map}
use Rattle.auth_types.specs.Tree.{Tree, Trees, node, no_trees, trees, trees_of, size, trees_size}
use Rattle.auth_types.specs.Views.{tree_of}
use Rattle.auth_types.specs.declared.invocation.Invocation.{Invocation}
use Rattle.auth_trees.specs.declared.nodes.Node.{Node}
use Rattle.auth_trees.specs.Listed.{Kept, kept, kept_of, nodes_of, nodes_of_row}

-- ---- how many there are

mutual
  unfolding nodes_of nodes_of_row

  pub length-nodes_of : (t : Tree) → length (nodes_of t) ≡ size t
  length-nodes_of (node f ts) = ap suc (length-nodes_of_row ts)

  pub length-nodes_of_row : (ts : Trees) → length (nodes_of_row ts) ≡ trees_size ts
  length-nodes_of_row no_trees = refl
  length-nodes_of_row (trees t ts) = length-append (nodes_of t) (nodes_of_row ts) ∙ ap₂ (λ (x y : ℕ). x + y) (length-nodes_of t) (length-nodes_of_row ts)

-- ---- a row, tree by tree

row-append : (ts : List Tree) (t : Tree) → nodes_of_row (trees_of (ts ++ t ∷ [])) ≡ nodes_of_row (trees_of ts) ++ nodes_of t
unfolding nodes_of_row
row-append [] t = append-nil (nodes_of t)
row-append (u ∷ ts) t =
    ap (λ (x : List Kept). nodes_of u ++ x) (row-append ts t) ∙ sym (append_assoc (nodes_of u) (nodes_of_row (trees_of ts)) (nodes_of t))

row_start : (start : List Kept) → start ≡ start ++ nodes_of_row no_trees
unfolding nodes_of_row
row_start start = sym (append-nil start)

pub none_yet : (start : List Kept) → start ≡ start ++ nodes_of_row (trees_of [])
none_yet start = row_start start

-- one tree more of a row of things that have trees
pub more : {A : Type 0} (tree : A → Tree) (start now new : List Kept) (xs : List A) (k : ℕ) (x : A) → k < length xs → x ≡ get_or xs k x
    → now ≡ start ++ nodes_of_row (trees_of (map tree (take k xs))) → new ≡ now ++ nodes_of (tree x)
    → new ≡ start ++ nodes_of_row (trees_of (map tree (take (k + 1) xs)))
more tree start now new xs k x lt same so_far put =
    let row : map tree (take (k + 1) xs) ≡ map tree (take k xs) ++ tree x ∷ [] =
    map_more tree xs k x lt ∙ ap (λ y. map tree (take k xs) ++ tree y ∷ []) (sym same) in
    put ∙ ap (λ (o : List Kept). o ++ nodes_of (tree x)) so_far ∙ append_assoc start _ _
    ∙ ap (λ (o : List Kept). start ++ o) (sym (row-append (map tree (take k xs)) (tree x)) ∙ ap (λ (ts : List Tree). nodes_of_row (trees_of ts)) (sym row))

-- ---- a tree, after its children

unfolds : (i : Invocation) → nodes_of (tree_of i) ≡ kept_of (tree_of i) ∷ nodes_of_row (trees_of i.sub_invocations)
unfolding nodes_of
unfolds i = refl

pub tree_done : (i : Invocation) (ts : List Tree) (start pushed new : List Node) (p m : Node) (at len : ℕ)
    → at ≡ length start → len ≡ length new → pushed ≡ start ++ p ∷ [] → ts ≡ i.sub_invocations
    → map kept new ≡ map kept pushed ++ nodes_of_row (trees_of ts) → kept m ≡ record { tree = tree_of i; size = len - at }
    → map kept (set new at m) ≡ map kept start ++ nodes_of (tree_of i)
tree_done i ts start pushed new p m at len begins long put subs listed made =
    let row = nodes_of_row (trees_of i.sub_invocations) in
    let whole : map kept new ≡ map kept start ++ (kept p ∷ row) =
    listed ∙ ap₂ (λ (xs : List Node) (us : List Tree). map kept xs ++ nodes_of_row (trees_of us)) put subs
    ∙ ap (λ (xs : List Kept). xs ++ row) (map-append kept start (p ∷ [])) ∙ append_assoc (map kept start) (kept p ∷ []) row in
    let total : length (map kept new) ≡ length (map kept start) + length (kept p ∷ row) = ap length whole ∙ length-append (map kept start) (kept p ∷ row) in
    let many : len - at ≡ size (tree_of i) =
    omega (arith, total, length-map new kept, length-map start kept, length-nodes_of_row (trees_of i.sub_invocations)) in
    let last : kept m ≡ kept_of (tree_of i) = made ∙ ap (λ (n : ℕ). record { tree = tree_of i; size = n }) many in
    let here : length (map kept start) ≡ at = length-map start kept ∙ sym begins in
    map-set kept new at m ∙ ap₂ (λ (xs : List Kept) (k : Kept). set xs at k) whole last
    ∙ set_at (map kept start) (kept p) row (kept_of (tree_of i)) at here ∙ ap (λ (xs : List Kept). map kept start ++ xs) (sym (unfolds i))
