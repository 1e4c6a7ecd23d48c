use Rattle.std.proofs.Common.{◌≡◌, map, take}
use Rattle.auth_types.specs.Tree.{trees_of}
use Rattle.auth_trees.specs.Listed.{roots, kept, nodes_of_row}
use Rattle.auth_trees.proofs.nodes.list_entries.Given as goal

abbrev pub invariant-loop-entry : goal.invariant-loop-entry
invariant-loop-entry l = map kept l.nodes.items ≡ nodes_of_row (trees_of (roots (take l.entry-index l.entries)))
