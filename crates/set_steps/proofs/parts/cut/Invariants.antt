use Rattle.std.proofs.Common.{◌≡◌, All, map, take}
use Rattle.ledger_parts.specs.Cut.{left_of, cut_from}
use Rattle.set_steps.specs.Job.{cluster_of, own_of, IsCut}
use Rattle.set_steps.proofs.parts.cut.Given as goal

abbrev pub invariant-loop-cluster : goal.invariant-loop-cluster
invariant-loop-cluster l = record {
  entries : l.entries ≡ left_of l.initial.entries (map (λ c. c.envelopes) (take l.cluster-index l.clusters));
  clusters : map cluster_of l.jobs.items ≡ map (λ c. c.envelopes) (take l.cluster-index l.clusters);
  own : map own_of l.jobs.items ≡ cut_from l.initial.entries (map (λ c. c.envelopes) (take l.cluster-index l.clusters));
  cut : All IsCut l.jobs.items;
}
