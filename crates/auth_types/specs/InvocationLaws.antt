-- The formats of trees of invocations are formats (own).
use Rattle.std.proofs.Common.{◌≡◌, ℕ, zero, suc, List, [], ◌∷◌, refl, ap}
use Rattle.xdr_spec.specs.declared.Why.TheVariants.{Depth}
use Rattle.xdr_spec.specs.Format.{Format}
use Rattle.xdr_spec.specs.Laws.{IsFormat}
use Rattle.xdr_spec.proofs.Lemmas.{counted_lawful, empty_list_lawful, pair_lawful, via_lawful}
use Rattle.invoke_types.specs.Function.{function_lawful}
use Rattle.auth_types.specs.Tree.{Tree, Trees, node, no_trees, trees, trees_of, list_of_trees}
use Rattle.auth_types.specs.Views.{tree_of, invocation_of, invocation_of_parts, invocation_parts}
use Rattle.auth_types.specs.Invocation.{one_level, tree_format, subs_format, levels_below, invocation_format}
use Rattle.auth_types.specs.declared.invocation.Invocation.{Invocation}

pub trees_back : (ts : Trees) → trees_of (list_of_trees ts) ≡ ts
trees_back no_trees = refl
trees_back (trees t ts) = ap (trees t) (trees_back ts)

pub trees_there : (ts : List Tree) → list_of_trees (trees_of ts) ≡ ts
trees_there [] = refl
trees_there (t ∷ ts) = ap (λ (x : List Tree). t ∷ x) (trees_there ts)

pub invocation_of-tree : (i : Invocation) → invocation_of (tree_of i) ≡ i
invocation_of-tree i = ap (λ (x : List Tree). invocation_of_parts (i.function, x)) (trees_there i.sub_invocations)

pub tree_of-invocation : (t : Tree) → tree_of (invocation_of t) ≡ t
tree_of-invocation (node f ts) = ap (node f) (trees_back ts)

one_level_lawful : (subs : Format (List Tree)) → IsFormat subs → IsFormat (one_level subs)
one_level_lawful subs s =
    via_lawful invocation_of_parts invocation_parts _ (λ p. refl) (λ i. refl) (pair_lawful _ _ function_lawful s)

tree_lawful : (subs : Format (List Tree)) → IsFormat subs → IsFormat (tree_format subs)
tree_lawful subs s =
    via_lawful tree_of invocation_of (one_level subs) invocation_of-tree tree_of-invocation (one_level_lawful subs s)

pub subs_lawful : (n : ℕ) → IsFormat (subs_format n)
unfolding subs_format
subs_lawful zero = empty_list_lawful Depth tt
subs_lawful (suc n) = counted_lawful (tree_format (subs_format n)) (tree_lawful (subs_format n) (subs_lawful n))

pub invocation_lawful : IsFormat invocation_format
unfolding invocation_format
invocation_lawful = one_level_lawful (subs_format levels_below) (subs_lawful levels_below)
