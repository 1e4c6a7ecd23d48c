use Rattle.std.proofs.Common.{◌≡◌, drop, map}
use Rattle.schedule_runs.specs.Complete.{have_lengths}
use Rattle.schedule_runs.proofs.complete.have_lengths.Given as goal

abbrev pub invariant-loop-index : goal.invariant-loop-index
invariant-loop-index l = have_lengths l.counts (map (λ x. x.cluster.now) l.lanes) ≡ have_lengths (drop l.index l.counts) (map (λ x. x.cluster.now) (drop l.index l.lanes))
