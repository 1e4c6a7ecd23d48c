use Rattle.std.proofs.Common.{ℕ, ◌+◌, ◌<◌, length, get_or, arith, rules, sym, subst}
use Rattle.worker_runs.proofs.Lists.{can_at, worked_by_index}
use Rattle.worker_runs.proofs.workers.in_turn.Goals as goal

pub for_each_mut-requires-clause-accepts : goal.for_each_mut-requires-clause-accepts
for_each_mut-requires-clause-accepts g c κs within i p l e =
    let can = g.W.Work.can c.args.work.now in
    let first = c.args.first in
    (omega arith, subst (λ x. can (first + i) x) (sym e) (can_at can first i c.args.jobs.now p.now l c.requires.can.1))

pub returns : goal.returns
returns g c =
    let gives = g.W.Work.gives c.args.work.now in
    let first = c.args.first in
    let each : (k : ℕ) (d : g.row.J.Denot) → k < length c.args.jobs.now → gives (first + k) (get_or c.args.jobs.now k d) (get_or c.for_each_mut.new.s k d) =
    λ k d l.
    let at = (c.for_each_mut.ensures k d l).1 in
    subst (λ y. gives (first + k) (get_or c.args.jobs.now k d) y) at.left (subst (λ x. gives (first + k) x at.after_call.now) at.argument_is at.call) in
    worked_by_index gives first c.args.jobs.now c.for_each_mut.new.s (search rules) each
