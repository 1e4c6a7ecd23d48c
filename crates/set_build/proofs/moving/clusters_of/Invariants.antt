use Rattle.std.proofs.Common.{◌≡◌, length, map, take}
use Rattle.set_build.proofs.moving.clusters_of.Given as goal

abbrev pub invariant-loop-envelopes : goal.invariant-loop-envelopes
invariant-loop-envelopes l = map (λ c. c.envelopes) l.clusters.items ≡ map (λ v. v.items) (take (length l.yielded) l.fn.last.items)
