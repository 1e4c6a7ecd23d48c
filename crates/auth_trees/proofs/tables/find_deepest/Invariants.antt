use Rattle.std.proofs.Common.{◌≡◌, ℕ, ◌<◌, length, take, get_or, None, false}
use Rattle.auth_trees.specs.Flat.{deepest_record}
use Rattle.auth_trees.proofs.tables.find_deepest.Given as goal

abbrev pub invariant-loop-record : goal.invariant-loop-record
invariant-loop-record l = record {
  len : length l.deepest.items ≡ length l.fn.deepest.items;
  each : (entry : ℕ) → entry < length l.fn.deepest.items → get_or l.deepest.items entry None ≡ deepest_record (take l.record-index l.records) l.path entry;
  any : l.any ≡ false → (entry : ℕ) → entry < length l.fn.deepest.items → get_or l.deepest.items entry None ≡ None;
}
