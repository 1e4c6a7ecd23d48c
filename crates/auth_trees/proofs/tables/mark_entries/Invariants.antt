use Rattle.std.proofs.Common.{◌≡◌, ℕ, ◌<◌, length, take, get_or, false}
use Rattle.auth_trees.specs.Flat.{has_entry}
use Rattle.auth_trees.proofs.tables.mark_entries.Given as goal

abbrev pub invariant-loop-record : goal.invariant-loop-record
invariant-loop-record l = record {
  len : length l.used.items ≡ length l.fn.used.items;
  marks : (id : ℕ) → id < length l.fn.used.items → get_or l.used.items id false ≡ has_entry (take l.record-index l.records) id;
}
