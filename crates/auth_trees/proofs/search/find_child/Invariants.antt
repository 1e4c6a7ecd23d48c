use Rattle.std.proofs.Common.{◌≡◌, map, drop}
use Rattle.auth_trees.specs.Listed.{kept}
use Rattle.auth_spec.specs.Demands.{first_from}
use Rattle.auth_trees.specs.Flat.{child_in}
use Rattle.auth_trees.specs.Ready.{child_found}
use Rattle.auth_trees.proofs.search.find_child.Given as goal

abbrev pub invariant-loop-entry : goal.invariant-loop-entry
invariant-loop-entry l =
    first_from (child_in (map kept l.tables.nodes.items) l.tables.taken.items l.tables.deepest.items l.address l.function) l.entry (drop l.entry l.tables.addresses.items)
    ≡ child_found l.tables l.address l.function
