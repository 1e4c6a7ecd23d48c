use Rattle.std.proofs.Common.{◌≡◌, ℕ, ◌<◌, length, take, get_or, false}
use Rattle.auth_trees.specs.Flat.{has_record}
use Rattle.auth_trees.proofs.tables.mark_nodes.Given as goal

abbrev pub invariant-loop-record : goal.invariant-loop-record
invariant-loop-record l = record {
  len : length l.taken.items ≡ length l.fn.taken.items;
  marks : (id : ℕ) → id < length l.fn.taken.items → get_or l.taken.items id false ≡ has_record (take l.record-index l.records) id;
}
