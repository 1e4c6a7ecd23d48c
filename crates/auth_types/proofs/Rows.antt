-- The bytes of an invocation are those of its tree, and those of its sub-invocations in a row.
use Rattle.std.proofs.Common.{◌≡◌, ℕ, zero, suc, ◌<◌, ◌^◌, List, [], ◌∷◌, ◌++◌, length, get_or, refl, sym, ap, ap₂, subst, ◌∙◌, ◌+◌, take, append_assoc, arith}
use Rattle.std.proofs.lemmas.List.{append-nil, map_more, length-append}
use Rattle.std.specs.Int.{w32, to_be_bytes}
use Rattle.std.specs.List.{flat_map, AllByRecursion}
use Rattle.invoke_types.specs.Function.{function_format}
use Rattle.auth_types.specs.Tree.{Tree, trees_of}
use Rattle.auth_types.specs.Views.{tree_of, forest_of}
use Rattle.auth_types.specs.InvocationLaws.{trees_there}
use Rattle.auth_types.specs.Bytes.{tree_bytes, trees_bytes, IsTreeBounded, AreTreesBounded, invocation_bytes, IsInvocationBounded}
use Rattle.auth_types.specs.declared.invocation.Invocation.{Invocation}

trees_bytes-trees_of : (ts : List Tree) → trees_bytes (trees_of ts) ≡ flat_map tree_bytes ts
trees_bytes-trees_of [] = refl
trees_bytes-trees_of (t ∷ ts) = ap (λ (x : List ℕ). tree_bytes t ++ x) (trees_bytes-trees_of ts)

pub invocation_bytes-tree : (i : Invocation) → invocation_bytes i ≡ tree_bytes (tree_of i)
invocation_bytes-tree i =
    ap (λ (x : List ℕ). function_format.spell i.function ++ x)
    (ap₂ (λ (n : ℕ) (x : List ℕ). to_be_bytes w32 n ++ x) (sym (ap length (trees_there i.sub_invocations))) (sym (trees_bytes-trees_of i.sub_invocations)))

each_bounded : (ts : List Tree) → AreTreesBounded (trees_of ts) → AllByRecursion IsTreeBounded ts
each_bounded [] h = tt
each_bounded (t ∷ ts) h = (h.0, each_bounded ts h.1)

invocation_bounded : (i : Invocation) → IsTreeBounded (tree_of i) → IsInvocationBounded i
invocation_bounded i h = (h.0, subst (λ (x : List Tree). length x < 2 ^ 32) (trees_there i.sub_invocations) h.1, each_bounded i.sub_invocations h.2)

pub bounded_at : (is : List Invocation) (k : ℕ) (d : Invocation) → AllByRecursion IsTreeBounded (forest_of is) → k < length is → IsInvocationBounded (get_or is k d)
bounded_at [] k d h lt = absurd (omega arith)
bounded_at (i ∷ is) zero d h lt = invocation_bounded i h.0
bounded_at (i ∷ is) (suc k) d h lt = bounded_at is k d h.1 (omega arith)

flat_map_last : {A : Type 0} (f : A → List ℕ) (xs : List A) (x : A) → flat_map f (xs ++ x ∷ []) ≡ flat_map f xs ++ f x
flat_map_last f [] x = append-nil (f x)
flat_map_last f (y ∷ xs) x = ap (λ (z : List ℕ). f y ++ z) (flat_map_last f xs x) ∙ sym (append_assoc (f y) (flat_map f xs) (f x))

-- one member more
more : (is : List Invocation) (k : ℕ) (i : Invocation) → k < length is → i ≡ get_or is k i
    → flat_map tree_bytes (forest_of (take (k + 1) is)) ≡ flat_map tree_bytes (forest_of (take k is)) ++ invocation_bytes i
more is k i lt same =
    let row : forest_of (take (k + 1) is) ≡ forest_of (take k is) ++ tree_of i ∷ [] = map_more tree_of is k i lt ∙ ap (λ y. forest_of (take k is) ++ tree_of y ∷ []) (sym same) in
    ap (flat_map tree_bytes) row ∙ flat_map_last tree_bytes (forest_of (take k is)) (tree_of i)
    ∙ ap (λ (b : List ℕ). flat_map tree_bytes (forest_of (take k is)) ++ b) (sym (invocation_bytes-tree i))

pub row_more : (start out new : List ℕ) (is : List Invocation) (k : ℕ) (i : Invocation) → k < length is → i ≡ get_or is k i
    → out ≡ start ++ flat_map tree_bytes (forest_of (take k is)) → new ≡ out ++ invocation_bytes i → new ≡ start ++ flat_map tree_bytes (forest_of (take (k + 1) is))
row_more start out new is k i lt same so_far put =
    put ∙ ap (λ (o : List ℕ). o ++ invocation_bytes i) so_far ∙ append_assoc start (flat_map tree_bytes (forest_of (take k is))) (invocation_bytes i)
    ∙ ap (λ (o : List ℕ). start ++ o) (sym (more is k i lt same))

pub row_size_more : (is : List Invocation) (k : ℕ) (i : Invocation) → k < length is → i ≡ get_or is k i
    → length (flat_map tree_bytes (forest_of (take (k + 1) is))) ≡ length (flat_map tree_bytes (forest_of (take k is))) + length (invocation_bytes i)
row_size_more is k i lt same = ap length (more is k i lt same) ∙ length-append (flat_map tree_bytes (forest_of (take k is))) (invocation_bytes i)
