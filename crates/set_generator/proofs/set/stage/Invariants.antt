use Rattle.std.specs.List.{range_with_len}
use Rattle.std.proofs.Common.{◌≡◌, map}
use Rattle.set_generator.specs.Drawn.{drawn_cluster}
use Rattle.set_generator.proofs.set.stage.Given as goal

abbrev pub invariant-loop-number : goal.invariant-loop-number
invariant-loop-number l = l.clusters.items ≡ map (drawn_cluster l.drawn l.stage) (range_with_len 0 l.number)
