use Rattle.host_ledger.proofs.Stepping.{lives_run}
use Rattle.host_ledger.proofs.instance.extend_instance.Goals as goal

pub returns-clause-does : goal.returns-clause-does
returns-clause-does g c =
    lives_run c.extend_lives.result c.args.values.now c.args.contract c.args.code c.args.a c.args.b c.in_ok-threshold.threshold c.in_ok-extend_to.extend_to c.args.storage.now c.extend_lives.new.storage c.args.budget.now c.enter.new.budget
    c.in_ok-threshold.ensures c.in_ok-extend_to.ensures (c.in_ok-enter.ensures c.args.values.now) c.extend_lives.ensures.does
