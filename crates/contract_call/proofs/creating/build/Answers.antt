use Rattle.contract_storage.proofs.Lemmas.{again}
use Rattle.host_ledger.proofs.Lemmas.{later_read}
use Rattle.contract_call.proofs.Constructing.{built}
use Rattle.contract_call.proofs.creating.build.Goals as goal

pub returns-in-Ok-clause-does : goal.returns-in-Ok-clause-does
returns-in-Ok-clause-does g c =
    built c.in-Ok.field-0 c.instantiate.result c.args.id c.args.hash c.args.storage.now c.sized_code.new.storage c.instantiate.new.storage c.args.budget.now c.instantiate.new.budget c.in-Ok.ensures.read c.in-Ok.ensures.does c.instantiate.ensures.does

pub returns-in-Ok-clause-later : goal.returns-in-Ok-clause-later
returns-in-Ok-clause-later g c =
    again c.args.storage.now c.sized_code.new.storage c.instantiate.new.storage (later_read c.args.storage.now c.sized_code.new.storage c.in-Ok.ensures.read) c.instantiate.ensures.later
