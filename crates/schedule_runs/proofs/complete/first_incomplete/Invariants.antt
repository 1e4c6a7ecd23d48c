use Rattle.std.proofs.Common.{◌≡◌, drop}
use Rattle.schedule_runs.specs.Plans.{first_incomplete_from}
use Rattle.set_steps.specs.Stages.{clusters_of}
use Rattle.schedule_runs.proofs.complete.first_incomplete.Given as goal

abbrev pub invariant-loop-index : goal.invariant-loop-index
invariant-loop-index l = first_incomplete_from 0 (clusters_of l.stages) l.orders
    ≡ first_incomplete_from l.index (clusters_of (drop l.index l.stages)) (drop l.index l.orders)
