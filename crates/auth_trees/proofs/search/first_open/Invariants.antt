use Rattle.std.proofs.Common.{◌≡◌, map, drop}
use Rattle.auth_types.specs.Views.{forest_of}
use Rattle.auth_trees.specs.Listed.{kept}
use Rattle.auth_trees.specs.Flat.{IsRowAt, first_open}
use Rattle.auth_trees.proofs.search.first_open.Given as goal

abbrev pub invariant-loop-tree : goal.invariant-loop-tree
invariant-loop-tree l = record {
  row : IsRowAt (map kept l.nodes) l.id (forest_of (drop l.tree-index l.row));
  same : first_open l.taken l.function l.id (forest_of (drop l.tree-index l.row)) ≡ first_open l.taken l.function l.start (forest_of l.row);
}
