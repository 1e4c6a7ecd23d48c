use Rattle.std.proofs.Common.{◌≡◌, length, take}
use Rattle.auth_trees.proofs.records.Path.new.Given as goal

abbrev pub invariant-loop-index : goal.invariant-loop-index
invariant-loop-index l = record {
  long : length l.numbers ≡ 130;
  copied : take l.index l.numbers ≡ take l.index l.path;
}
