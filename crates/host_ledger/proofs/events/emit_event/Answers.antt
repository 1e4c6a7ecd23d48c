use Rattle.value_types.specs.Views.{datum, datums}
use Rattle.host_ledger.proofs.Stepping.{event_runs}
use Rattle.host_ledger.proofs.events.emit_event.Goals as goal

pub returns-clause-does : goal.returns-clause-does
returns-clause-does c env w =
    event_runs c.emit.result c.args.values.now c.args.contract c.args.a c.args.b (datums c.in_ok-topics.topics.now) (datum c.get.result.now) c.in_ok-event.event c.args.budget.now c.enter.new.budget c.emit.new.budget
    c.args.events.now c.emit.new.events c.in_ok-topics.ensures.means (rw c.get.ensures c.in_ok-content.ensures.means) (c.in_ok-enter.ensures c.args.values.now) c.in_ok-event.ensures.event c.emit.ensures.does w
