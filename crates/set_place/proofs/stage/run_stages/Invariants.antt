use Rattle.std.proofs.Common.{◌≡◌, take}
use Rattle.stage_runs.specs.Runs.{run_set, start}
use Rattle.apply_spec.specs.Enforced.{enforced}
use Rattle.set_steps.specs.State.{between}
use Rattle.set_steps.specs.Stages.{clusters_of}
use Rattle.set_place.proofs.stage.run_stages.Given as goal

abbrev pub invariant-loop-stage : goal.invariant-loop-stage
invariant-loop-stage l =
    between l.ledger.entries l.reports ≡ run_set (enforced l.header l.verdicts) (start l.initial.ledger.entries) (clusters_of (take l.stage-index l.stages))
