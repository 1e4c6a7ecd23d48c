-- The invocations of the program as trees (own).
use Rattle.std.specs.Prelude.{List, map}
use Rattle.invoke_types.specs.declared.function.Function.{Function}
use Rattle.auth_types.specs.Tree.{Tree, node, trees_of, list_of_trees}
use Rattle.auth_types.specs.declared.invocation.Invocation.{Invocation}

abbrev pub tree_of : Invocation → Tree
tree_of i = node i.function (trees_of i.sub_invocations)

abbrev pub forest_of : List Invocation → List Tree
forest_of is = map tree_of is

abbrev pub invocation_of_parts : Function × List Tree → Invocation
invocation_of_parts p = record { function = p.0; sub_invocations = p.1 }

abbrev pub invocation_parts : Invocation → Function × List Tree
invocation_parts i = (i.function, i.sub_invocations)

-- the invocation of a tree
abbrev pub invocation_of : Tree → Invocation
invocation_of (node f ts) = invocation_of_parts (f, list_of_trees ts)
