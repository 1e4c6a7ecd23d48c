use Rattle.std.proofs.Common.{◌≤◌, All, length, map}
use Rattle.stage_runs.specs.Maps.{LedgerMap}
use Rattle.spec_apply.specs.Moved.{AreMoved}
use Rattle.spec_apply.specs.Passing.{IsPassed}
use Rattle.spec_apply.specs.Runs.{IsDoneJob, envelope_of}
use Rattle.spec_apply.proofs.order.run_in_order.Given as goal

abbrev pub invariant-loop-job : goal.invariant-loop-job
invariant-loop-job l = record {
  passed : (opening : LedgerMap) → All (IsDoneJob l.header l.verdicts opening) l.fn.jobs.items
      → AreMoved opening l.initial.pass.entries l.initial.pass.moved
      → IsPassed l.header l.verdicts opening (map envelope_of l.yielded) l.initial.pass l.pass;
  few : l.pass.kept ≤ length l.yielded;
}
