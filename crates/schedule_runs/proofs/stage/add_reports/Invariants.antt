use Rattle.std.proofs.Common.{◌≡◌, ◌++◌}
use Rattle.set_steps.specs.State.{reports_of}
use Rattle.schedule_runs.proofs.stage.add_reports.Given as goal

abbrev pub invariant-loop-one : goal.invariant-loop-one
invariant-loop-one l = l.reports ≡ l.initial.reports ++ reports_of l.yielded
