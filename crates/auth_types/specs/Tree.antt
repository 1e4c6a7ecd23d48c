-- What an invocation is, without where it lies in memory: a function, and the trees below it (own). `size` counts the functions.
use Rattle.std.specs.Prelude.{ℕ, suc, ◌+◌, List, [], ◌∷◌}
use Rattle.invoke_types.specs.declared.function.Function.{Function}

mutual
  pub data Tree : Type 0 where
    node : Function → Trees → Tree

  pub data Trees : Type 0 where
    no_trees : Trees
    trees : Tree → Trees → Trees

abbrev pub trees_of : List Tree → Trees
trees_of [] = no_trees
trees_of (t ∷ ts) = trees t (trees_of ts)

abbrev pub list_of_trees : Trees → List Tree
list_of_trees no_trees = []
list_of_trees (trees t ts) = t ∷ list_of_trees ts

-- the number of functions in a tree
abbrev mutual
  pub size : Tree → ℕ
  size (node f ts) = suc (trees_size ts)

  pub trees_size : Trees → ℕ
  trees_size no_trees = 0
  trees_size (trees t ts) = size t + trees_size ts

abbrev pub row_size : List Tree → ℕ
row_size ts = trees_size (trees_of ts)
