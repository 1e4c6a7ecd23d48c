use Rattle.host_ledger.specs.Worlds.{copied}
use Rattle.host_ledger.proofs.Updating.{update_runs, update_refuses}
use Rattle.host_ledger.proofs.updates.update_code.Goals as goal

pub returns-in-Ok-clause-does : goal.returns-in-Ok-clause-does
returns-in-Ok-clause-does g c =
    update_runs c.update_to.result c.args.values.now c.args.contract c.in-Ok.code c.args.a c.in_ok-bytes.bytes.now c.args.storage.now c.update_to.new.storage c.args.events.now c.update_to.new.events c.args.budget.now c.enter.new.budget c.update_to.new.budget
    (copied c.args.copy.now) (copied c.update_to.new.copy) c.in_ok-bytes.ensures.means (c.in_ok-enter.ensures c.args.values.now) c.in-Ok.ensures.0 c.in-Ok.ensures.1 c.update_to.ensures.does

pub returns-in-Err-clause-does : goal.returns-in-Err-clause-does
returns-in-Err-clause-does g c env serves w i l j k m n =
    update_refuses c.in-Err.error c.args.values.now c.args.a c.in_ok-bytes.bytes.now c.args.storage.now c.args.events.now c.args.budget.now c.enter.new.budget (copied c.args.copy.now) c.in_ok-bytes.ensures.means (c.in_ok-enter.ensures c.args.values.now)
    c.in-Err.ensures.0 c.in-Err.ensures.1 env w i l j k n
