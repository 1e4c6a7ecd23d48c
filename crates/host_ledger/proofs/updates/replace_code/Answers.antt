use Rattle.host_ledger.specs.Worlds.{copied}
use Rattle.host_ledger.proofs.Updating.{replace_goes, replace_stops}
use Rattle.host_ledger.proofs.updates.replace_code.Goals as goal

pub returns-in-Ok-clause-does : goal.returns-in-Ok-clause-does
returns-in-Ok-clause-does c =
    replace_goes c.in-Ok.field-0 c.void.result c.args.contract (copied c.args.copy.now) c.args.code c.args.events.now c.emit_update.new.events c.args.budget.now c.emit_update.new.budget c.void.ensures.value c.in-Ok.ensures.does

pub returns-clause-does : goal.returns-clause-does
returns-clause-does c =
    replace_stops c.in-Err.error c.args.contract (copied c.args.copy.now) c.args.code c.args.events.now c.emit_update.new.events c.args.budget.now c.emit_update.new.budget c.in-Err.ensures.does
