-- The bytes of a tree of invocations, at any depth: the function, and the count of its sub-invocations and these (RFC 4506). At
-- each level that is its spelling there.
use Rattle.std.specs.Prelude.{ℕ, ◌<◌, ◌^◌, List, [], ◌++◌, length}
use Rattle.std.specs.Int.{w32, to_be_bytes}
use Rattle.std.specs.List.{flat_map, AllByRecursion}
use Rattle.invoke_types.specs.Function.{function_format}
use Rattle.auth_types.specs.Tree.{Tree, Trees, node, no_trees, trees, list_of_trees}
use Rattle.auth_types.specs.declared.invocation.Invocation.{Invocation}

abbrev mutual
  pub tree_bytes : Tree → List ℕ
  tree_bytes (node f ts) = function_format.spell f ++ (to_be_bytes w32 (length (list_of_trees ts)) ++ trees_bytes ts)

  pub trees_bytes : Trees → List ℕ
  trees_bytes no_trees = []
  trees_bytes (trees t ts) = tree_bytes t ++ trees_bytes ts

-- each function has a spelling, and each count is in its range
abbrev mutual
  pub IsTreeBounded : Tree → Type 0
  IsTreeBounded (node f ts) = function_format.fits f × (length (list_of_trees ts) < 2 ^ 32) × AreTreesBounded ts

  pub AreTreesBounded : Trees → Type 0
  AreTreesBounded no_trees = Unit {0}
  AreTreesBounded (trees t ts) = IsTreeBounded t × AreTreesBounded ts

-- the bytes of an invocation of the program
abbrev pub invocation_bytes : Invocation → List ℕ
invocation_bytes i =
    function_format.spell i.function ++ (to_be_bytes w32 (length i.sub_invocations) ++ flat_map tree_bytes i.sub_invocations)

abbrev pub IsInvocationBounded : Invocation → Type 0
IsInvocationBounded i =
    function_format.fits i.function × (length i.sub_invocations < 2 ^ 32) × AllByRecursion IsTreeBounded i.sub_invocations
