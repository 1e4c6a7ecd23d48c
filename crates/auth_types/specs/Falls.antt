-- What a row of invocations contains is smaller than the row (own).
use Rattle.std.specs.Prelude.{◌≤◌, List, [], ◌∷◌}
use Rattle.std.proofs.Common.{arith}
use denote.Param.Weighed.{most}
use Rattle.auth_types.specs.Tree.{size, row_size}
use Rattle.auth_types.specs.Views.{tree_of, forest_of}
use Rattle.auth_types.specs.declared.invocation.Invocation.{Invocation}
use Rattle.auth_types.specs.declared.invocation.Invocations.TheInside as inside
use Rattle.auth_types.specs.declared.invocation.Invocations.TheDeep.{deep-Invocation, deep-Invocations}

deep_tree : (i : Invocation) → deep-Invocation i ≤ size (tree_of i)
deep_tree i = omega arith

deep_row : (is : List Invocation) → most deep-Invocation is ≤ row_size (forest_of is)
deep_row [] = omega arith
deep_row (i ∷ is) = omega (arith, deep_tree i, deep_row is)

pub invocations_fall : (a : inside.Inside) → Unit {0} → deep-Invocations a ≤ row_size (forest_of a.items.items)
invocations_fall a _ = omega (arith, deep_row a.items.items)
