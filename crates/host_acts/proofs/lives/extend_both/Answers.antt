use Rattle.contract_storage.proofs.Lemmas.{again}
use Rattle.host_acts.proofs.Living.{extend_stops, extend_goes}
use Rattle.host_acts.proofs.lives.extend_both.Goals as goal

pub returns-in-Ok-clause-does : goal.returns-in-Ok-clause-does
returns-in-Ok-clause-does g c =
    extend_goes c.in-Ok.field-0 c.extend-in-Ok.result c.args.contract c.args.code c.instance_key.result c.code_key.result c.args.threshold c.args.extend_to c.args.storage.now c.extend.new.storage c.extend-in-Ok.new.storage
    c.instance_key.ensures.key c.code_key.ensures.key c.in-Ok.ensures.does c.in-Ok.ensures.later c.extend-in-Ok.ensures.does

pub returns-in-Ok-clause-later : goal.returns-in-Ok-clause-later
returns-in-Ok-clause-later g c = again c.args.storage.now c.extend.new.storage c.extend-in-Ok.new.storage c.in-Ok.ensures.later c.extend-in-Ok.ensures.later

pub returns-clause-does : goal.returns-clause-does
returns-clause-does g c = extend_stops c.in-Err.error c.args.contract c.args.code c.instance_key.result c.args.threshold c.args.extend_to c.args.storage.now c.extend.new.storage c.instance_key.ensures.key c.in-Err.ensures.does
