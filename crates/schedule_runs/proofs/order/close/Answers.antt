use Rattle.std.proofs.Common.{[], refl, ◌∙◌, ap}
use Rattle.std.proofs.lemmas.List.Elements.{All-append, All-cons, All-nil, All-same}
use Rattle.set_steps.specs.State.{pending_of, reports_of, IsKeyed}
use Rattle.schedule_runs.proofs.Staged.{pending_next, reports_next}
use Rattle.schedule_runs.proofs.order.close.Goals as goal

pub loop-lane-preserved : goal.loop-lane-preserved
loop-lane-preserved c = record {
  pending = ap pending_of c.in_ok-push.ensures.items
      ∙ pending_next c.loop-lane.done.items c.loop-lane.yielded _ c.in-Some.lane c.loop-lane.invariant.pending c.in_ok-pending.ensures.pending;
  reports = ap reports_of c.in_ok-push.ensures.items
      ∙ reports_next c.loop-lane.done.items c.loop-lane.yielded _ c.in-Some.lane c.loop-lane.invariant.reports refl;
  keyed = All-same IsKeyed _ _ c.in_ok-push.ensures.items
      (All-append IsKeyed c.loop-lane.done.items _ c.loop-lane.invariant.keyed (All-cons IsKeyed _ [] c.in_ok-pending.ensures.spelled (All-nil IsKeyed)));
}
