use Rattle.std.specs.List.{range_with_len}
use Rattle.std.proofs.Common.{◌≡◌, ◌+◌, ◌*◌, ◌%◌, eqb, get_or, map, filter}
use Rattle.set_generator.specs.Drawn.{drawn_envelope}
use Rattle.set_generator.proofs.set.cluster.Given as goal

abbrev pub invariant-loop-j : goal.invariant-loop-j
invariant-loop-j l =
    l.envelopes.items
    ≡ map (drawn_envelope l.drawn) (filter (λ k. eqb (get_or l.drawn k 0 % 8) l.cluster) (map (λ j. 512 * l.stage + j) (range_with_len 0 l.j)))
