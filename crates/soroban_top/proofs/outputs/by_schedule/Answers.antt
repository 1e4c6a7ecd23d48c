use Rattle.std.specs.Option.{option_map}
use Rattle.std.proofs.Common.{◌∙◌, ap, arith}
use Rattle.apply_spec.specs.Runs.{new_header}
use Rattle.schedule_runs.specs.Plans.{run_stopped}
use Rattle.soroban_top.specs.Scheduled.{outputs_stopped}
use Rattle.soroban_top.proofs.Made.{new_header_fits, outputs_applied}
use Rattle.soroban_top.proofs.BySchedule.{scheduled_conflict, scheduled_free, scheduled_incomplete}
use Rattle.soroban_top.proofs.outputs.by_schedule.Goals as goal

pub written-requires-clause-header : goal.written-requires-clause-header
written-requires-clause-header g c κs within =
    rw c.in-Ok.ensures.header (new_header_fits c.args.ledger.header c.args.run.now.close_time c.requires.header c.requires.next (omega arith))

pub returns-in-Ok-clause-free : goal.returns-in-Ok-clause-free
returns-in-Ok-clause-free g c = scheduled_free c.args.scheduled.now c.args.set c.in-Ok.ensures.free c.in-Ok.ensures.complete

pub returns-in-Ok-clause-outputs : goal.returns-in-Ok-clause-outputs
unfolding outputs_stopped
returns-in-Ok-clause-outputs g c =
    let run = c.args.run.now in
    let scheduled = c.args.scheduled.now in
    c.in_ok-outputs-in-Ok.ensures.outputs
    ∙ outputs_applied (new_header c.args.ledger.header run.close_time) c.in-Ok.applied.ledger.header
    (run_stopped c.args.ledger.header run.verdicts.now c.args.ledger.entries c.args.set run.close_time scheduled.schedule.stages scheduled.steps) c.in-Ok.applied.ledger.entries
    c.in-Ok.applied.results.pairs c.in-Ok.applied.successes c.in-Ok.ensures.header c.in-Ok.ensures.entries c.in-Ok.ensures.results c.in-Ok.ensures.successes

pub returns-in-Ok-clause-log : goal.returns-in-Ok-clause-log
returns-in-Ok-clause-log g c = ap (option_map (λ b. b.items)) c.in_ok-outputs-in-Ok.ensures.log

pub returns-in-Err-Conflict-clause-refused : goal.returns-in-Err-Conflict-clause-refused
returns-in-Err-Conflict-clause-refused g c =
    let refused = rw c.in-Err-Conflict.field-0-is at c.in-Err-Conflict.ensures.refused in
    rw c.in_ok-key-in-Err-Conflict.ensures
    (scheduled_conflict c.args.scheduled.now c.args.set c.in-Err-Conflict.stage c.in-Err-Conflict.found.a c.in-Err-Conflict.found.b _ refused.0)

pub returns-in-Err-Incomplete-clause-refused : goal.returns-in-Err-Incomplete-clause-refused
returns-in-Err-Incomplete-clause-refused g c =
    let refused = rw c.in-Err-Incomplete.field-0-is at c.in-Err-Incomplete.ensures.refused in
    scheduled_incomplete c.args.scheduled.now c.args.set c.in-Err-Incomplete.stage refused.0 refused.1
