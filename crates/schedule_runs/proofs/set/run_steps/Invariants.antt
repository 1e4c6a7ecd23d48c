use Rattle.std.proofs.Common.{◌≡◌, drop}
use Rattle.stage_runs.specs.Sets.{stopped}
use Rattle.schedule_runs.specs.Plans.{planned_of}
use Rattle.apply_spec.specs.Enforced.{enforced}
use Rattle.set_steps.specs.State.{between}
use Rattle.set_steps.specs.Stages.{clusters_of}
use Rattle.schedule_runs.proofs.set.run_steps.Given as goal

abbrev pub invariant-loop-index : goal.invariant-loop-index
invariant-loop-index l = stopped (enforced l.header l.verdicts) l.steps (between l.initial.ledger.entries l.initial.reports) (planned_of (clusters_of l.stages) l.orders)
    ≡ stopped (enforced l.header l.verdicts) l.left (between l.ledger.entries l.reports) (planned_of (clusters_of (drop l.index l.stages)) (drop l.index l.orders))
