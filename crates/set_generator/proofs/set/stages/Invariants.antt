use Rattle.std.specs.List.{range_with_len}
use Rattle.std.proofs.Common.{◌≡◌, map}
use Rattle.set_generator.specs.Drawn.{drawn_stage}
use Rattle.set_generator.proofs.set.stages.Given as goal

abbrev pub invariant-loop-number : goal.invariant-loop-number
invariant-loop-number l = l.stages.items ≡ map (drawn_stage l.drawn) (range_with_len 0 l.number)
