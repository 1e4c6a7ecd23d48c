use Rattle.contract_call.proofs.Constructing.{instantiated, instance_failed}
use Rattle.contract_call.proofs.creating.instantiate.Goals as goal

pub returns-clause-does : goal.returns-clause-does
returns-clause-does g c =
    instantiated c.paid_module.result c.args.id c.args.hash c.args.length c.args.module c.args.storage.now c.make_instance.new.storage c.args.budget.now c.make_instance.new.budget c.paid_module.new.budget c.make_instance.ensures.later
    c.in-Ok.ensures.does c.paid_module.ensures.does

pub returns-in-Err-clause-does : goal.returns-in-Err-clause-does
returns-in-Err-clause-does g c =
    instance_failed c.in-Err.error c.args.id c.args.hash c.args.length c.args.module c.args.storage.now c.make_instance.new.storage c.args.budget.now c.make_instance.new.budget c.in-Err.ensures.does
