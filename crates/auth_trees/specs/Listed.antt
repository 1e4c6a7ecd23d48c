-- The nodes of trees in a row: each before its children, these in order (own).
use Rattle.std.specs.Prelude.{ℕ, suc, List, [], ◌∷◌, ◌++◌, map}
use Rattle.auth_types.specs.Tree.{Tree, Trees, node, no_trees, trees, trees_of, size}
use Rattle.auth_types.specs.Views.{tree_of}
use Rattle.auth_types.specs.declared.auth_entry.AuthEntry.{AuthEntry}
use Rattle.auth_trees.specs.declared.nodes.Node.{Node}

-- ---- the nodes of trees, with their places

-- a node of trees in a row: the index of its tree, the indices of the children that lead to it, and the tree that it is the root
-- of
pub record Spot : Type 0 where
  pub entry : ℕ
  pub place : List ℕ
  pub tree : Tree

abbrev pub below : Spot → List ℕ × Tree
below s = (s.entry ∷ s.place, s.tree)

abbrev pub first : List ℕ × Tree → Spot
first x = record { entry = 0; place = x.0; tree = x.1 }

abbrev pub next : Spot → Spot
next s = record s { entry = suc s.entry }

unfoldable mutual
  pub listed : Tree → List (List ℕ × Tree)
  listed (node f ts) = ([], node f ts) ∷ map below (listed_row ts)

  pub listed_row : Trees → List Spot
  listed_row no_trees = []
  listed_row (trees t ts) = map first (listed t) ++ map next (listed_row ts)

-- the trees of entries
abbrev pub roots : List AuthEntry → List Tree
roots entries = map (λ entry. tree_of entry.root_invocation) entries

-- the nodes of entries
abbrev pub spots : List AuthEntry → List Spot
spots entries = listed_row (trees_of (roots entries))

-- ---- what the program keeps of nodes

-- the tree below the node, and its size
pub record Kept : Type 0 where
  pub tree : Tree
  pub size : ℕ

abbrev pub kept : Node → Kept
kept n = record { tree = tree_of n.tree.now; size = n.size }

abbrev pub kept_of : Tree → Kept
kept_of t = record { tree = t; size = size t }

unfoldable mutual
  pub nodes_of : Tree → List Kept
  nodes_of (node f ts) = kept_of (node f ts) ∷ nodes_of_row ts

  pub nodes_of_row : Trees → List Kept
  nodes_of_row no_trees = []
  nodes_of_row (trees t ts) = nodes_of t ++ nodes_of_row ts
