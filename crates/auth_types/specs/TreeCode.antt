-- How the logic stores a tree (own).
use Rattle.std.specs.Prelude.{◌≡◌}
use Rattle.std.proofs.Common.{refl, ap, ap₂}
use Rattle.std.specs.Coded.{Coded}
use base.Stored.{Gv, gnil, gnum, gcons}
use Rattle.invoke_types.specs.contracts.function.Function as function
use Rattle.auth_types.specs.Tree.{Tree, Trees, node, no_trees, trees}

abbrev head : Gv → Gv
head gnil = gnil
head (gnum n) = gnil
head (gcons a b) = a

abbrev tail : Gv → Gv
tail gnil = gnil
tail (gnum n) = gnil
tail (gcons a b) = b

abbrev mutual
  pub tree_code : Tree → Gv
  tree_code (node f ts) = gcons (function.the_row.coded.code f) (trees_code ts)

  pub trees_code : Trees → Gv
  trees_code no_trees = gnil
  trees_code (trees t ts) = gcons (tree_code t) (trees_code ts)

mutual
  pub tree_code-inj : (x y : Tree) → tree_code x ≡ tree_code y → x ≡ y
  tree_code-inj (node f ts) (node g us) e =
      ap₂ node (function.the_row.coded.inj f g (ap (λ c. head c) e)) (trees_code-inj ts us (ap (λ c. tail c) e))

  pub trees_code-inj : (x y : Trees) → trees_code x ≡ trees_code y → x ≡ y
  trees_code-inj no_trees no_trees e = refl
  trees_code-inj no_trees (trees u us) e = absurd cc
  trees_code-inj (trees t ts) no_trees e = absurd cc
  trees_code-inj (trees t ts) (trees u us) e =
      ap₂ trees (tree_code-inj t u (ap (λ c. head c) e)) (trees_code-inj ts us (ap (λ c. tail c) e))

abbrev pub coded_tree : Coded Tree
coded_tree = record { code = tree_code; inj = tree_code-inj }
