use Rattle.std.specs.List.{list_all}
use Rattle.std.proofs.Common.{◌≡◌, take, nat_lt, true}
use Rattle.schedule_runs.specs.Complete.{counts_from}
use Rattle.schedule_runs.proofs.complete.count_numbers.Given as goal

abbrev pub invariant-loop-number : goal.invariant-loop-number
invariant-loop-number l = record {
  counts : l.counts.items ≡ counts_from 0 l.clusters (take l.number-index l.order);
  all : list_all (λ number. nat_lt number l.clusters) (take l.number-index l.order) ≡ true;
}
