-- The contexts of invocations, one after another.
use Rattle.std.proofs.Common.{◌≡◌, ℕ, ◌<◌, ◌+◌, List, [], ◌∷◌, ◌++◌, length, get_or, take, sym, ap, ◌∙◌, append_assoc}
use Rattle.std.proofs.lemmas.List.{append-nil, map_more}
use Rattle.value_types.specs.Datum.{Datum}
use Rattle.auth_types.specs.Tree.{Tree, trees_of}
use Rattle.auth_types.specs.Views.{tree_of, forest_of}
use Rattle.auth_types.specs.declared.invocation.Invocation.{Invocation}
use Rattle.call_spec.specs.Contexts.{contexts_of, all_contexts_of}

-- the contexts of these trees
abbrev pub contexts_in : List Tree → List Datum
contexts_in ts = all_contexts_of (trees_of ts)

last : (ts : List Tree) (t : Tree) → contexts_in (ts ++ t ∷ []) ≡ contexts_in ts ++ contexts_of t
last [] t = append-nil (contexts_of t)
last (u ∷ ts) t = ap (λ (ds : List Datum). contexts_of u ++ ds) (last ts t) ∙ sym (append_assoc (contexts_of u) (contexts_in ts) (contexts_of t))

more : (is : List Invocation) (k : ℕ) (i : Invocation) → k < length is → i ≡ get_or is k i
    → contexts_in (forest_of (take (k + 1) is)) ≡ contexts_in (forest_of (take k is)) ++ contexts_of (tree_of i)
more is k i lt same =
    let row : forest_of (take (k + 1) is) ≡ forest_of (take k is) ++ tree_of i ∷ [] = map_more tree_of is k i lt ∙ ap (λ y. forest_of (take k is) ++ tree_of y ∷ []) (sym same) in
    ap (λ (ts : List Tree). contexts_in ts) row ∙ last (forest_of (take k is)) (tree_of i)

-- one invocation more
pub row_more : (start out new : List Datum) (is : List Invocation) (k : ℕ) (i : Invocation) → k < length is → i ≡ get_or is k i
    → out ≡ start ++ contexts_in (forest_of (take k is)) → new ≡ out ++ contexts_of (tree_of i) → new ≡ start ++ contexts_in (forest_of (take (k + 1) is))
row_more start out new is k i lt same so_far put =
    put ∙ ap (λ (o : List Datum). o ++ contexts_of (tree_of i)) so_far ∙ append_assoc start (contexts_in (forest_of (take k is))) (contexts_of (tree_of i))
    ∙ ap (λ (o : List Datum). start ++ o) (sym (more is k i lt same))
