-- How trees of invocations are spelled (XDR file Stellar-transaction, `SorobanAuthorizedInvocation`): a function, and the count
-- of its sub-invocations and these. At the last of the levels there are none.
use Rattle.std.specs.Prelude.{ℕ, zero, suc, List}
use Rattle.xdr_spec.specs.declared.Why.TheVariants.{Depth}
use Rattle.xdr_spec.specs.Format.{Format, pair, via, empty_list, counted}
use Rattle.invoke_types.specs.Function.{function_format}
use Rattle.auth_types.specs.Tree.{Tree}
use Rattle.auth_types.specs.Views.{tree_of, invocation_of, invocation_of_parts, invocation_parts}
use Rattle.auth_types.specs.declared.invocation.Invocation.{Invocation}

-- an invocation with these sub-invocations
abbrev pub one_level : Format (List Tree) → Format Invocation
one_level subs = via invocation_of_parts invocation_parts (pair function_format subs)

-- the same, as a tree
abbrev pub tree_format : Format (List Tree) → Format Tree
tree_format subs = via tree_of invocation_of (one_level subs)

-- the sub-invocations of an invocation with at most this number of levels below it
unfoldable pub subs_format : ℕ → Format (List Tree)
subs_format zero = empty_list Depth
subs_format (suc n) = counted (tree_format (subs_format n))

-- the number of levels below the root of a tree: 100 levels are allowed
abbrev pub levels_below : ℕ
levels_below = 99

-- the root of a tree
unfoldable pub invocation_format : Format Invocation
invocation_format = one_level (subs_format levels_below)
