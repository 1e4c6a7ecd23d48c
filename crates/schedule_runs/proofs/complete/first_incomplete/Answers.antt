use Rattle.std.proofs.Common.{sym, ◌∙◌}
use Rattle.stage_runs.specs.Runs.{clusters_in}
use Rattle.set_steps.specs.Stages.{stage_of}
use Rattle.schedule_runs.proofs.Completing.{more_orders}
use Rattle.schedule_runs.proofs.complete.first_incomplete.Goals as goal

pub returns-then-orders-stages : goal.returns-then-orders-stages
returns-then-orders-stages c =
    sym (c.loop-index.invariant ∙ more_orders (λ s. clusters_in (stage_of s)) c.args.stages.now c.args.orders.now c.loop-index.index c.loop-index-test.false c.loop-index.auto.index-end c.if-orders-stages.true)
