use Rattle.std.proofs.Common.{◌≡◌, All, List, map, take}
use Rattle.stage_runs.specs.Runs.{Reported, run_clusters}
use Rattle.apply_spec.specs.Enforced.{enforced}
use Rattle.set_steps.specs.State.{between, IsKeyed}
use Rattle.set_place.specs.Reaching.{in_stage}
use Rattle.set_place.proofs.cluster.run_clusters.Given as goal

abbrev pub invariant-loop-cluster : goal.invariant-loop-cluster
invariant-loop-cluster l = record {
  run : (reports : List Reported) → in_stage l.ledger.entries reports l.done.items
      ≡ run_clusters (enforced l.header l.verdicts) (between l.initial.ledger.entries reports) (map (λ c. c.envelopes) (take l.cluster-index l.clusters));
  keyed : All IsKeyed l.done.items;
}
