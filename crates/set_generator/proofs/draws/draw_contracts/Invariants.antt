use Rattle.std.specs.List.{range_with_len}
use Rattle.std.proofs.Common.{◌≡◌, map}
use Rattle.set_generator.specs.RandomNumbers.{called, draw}
use Rattle.set_generator.proofs.draws.draw_contracts.Given as goal

abbrev pub invariant-loop-k : goal.invariant-loop-k
invariant-loop-k l = record {
  next : l.x ≡ draw l.seed l._k;
  drawn : l.drawn.items ≡ map (called l.seed) (range_with_len 0 l._k);
}
