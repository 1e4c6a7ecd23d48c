use Rattle.std.proofs.Common.{◌≡◌, map, drop}
use Rattle.auth_trees.specs.Listed.{kept, roots}
use Rattle.auth_trees.specs.Flat.{IsRowAt, root_in}
use Rattle.auth_trees.specs.Ready.{root_found}
use Rattle.auth_trees.proofs.search.find_root.Given as goal

abbrev pub invariant-loop-entry : goal.invariant-loop-entry
invariant-loop-entry l = record {
  row : IsRowAt (map kept l.tables.nodes.items) l.id (roots (drop l.entry l.tables.entries.now));
  same : root_in l.tables.used.items l.tables.addresses.items l.address l.function l.entry l.id (drop l.entry l.tables.entries.now)
      ≡ root_found l.tables l.address l.function;
}
