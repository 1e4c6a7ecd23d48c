use Rattle.std.proofs.Common.{◌≡◌, ◌++◌, All}
use Rattle.stage_runs.specs.Runs.{put_all_in}
use Rattle.set_steps.specs.State.{pending_of, reports_of, IsKeyed}
use Rattle.set_steps.proofs.stage_end.end_stage.Given as goal

abbrev pub invariant-loop-one : goal.invariant-loop-one
invariant-loop-one l = record {
  entries : l.entries ≡ put_all_in l.initial.entries (pending_of l.yielded);
  reports : l.reports ≡ l.initial.reports ++ reports_of l.yielded;
  left : All IsKeyed l.one-iterator.rest.items;
}
