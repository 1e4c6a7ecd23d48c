use Rattle.std.proofs.Common.{ap, ◌∙◌}
use Rattle.ledger_types.specs.declared.key.LedgerKey.{LedgerKey}
use Rattle.call_spec.specs.Keys.{code_key}
use Rattle.host_acts.specs.Accessed.{end_of}
use Rattle.host_ledger.specs.Worlds.{copied}
use Rattle.host_ledger.proofs.Updating.{update_goes, update_stops}
use Rattle.host_ledger.proofs.updates.update_to.Goals as goal

pub returns-in-Ok-clause-does : goal.returns-in-Ok-clause-does
returns-in-Ok-clause-does g c =
    update_goes (λ code. code.now) c.in-Ok.field-0 c.replace_code.result c.args.contract c.args.code c.args.storage.now c.code_at.follows.lender-at-none c.args.events.now c.replace_code.new.events c.args.budget.now c.replace_code.new.budget (copied c.args.copy.now)
    (copied c.replace_code.new.copy) (rw c.in-Ok.is at c.code_at.follows.holds-at-none).0 c.replace_code.ensures.does

pub returns-in-Ok-clause-read : goal.returns-in-Ok-clause-read
returns-in-Ok-clause-read g c = c.code_at.follows.holds-at-none.1

pub returns-in-Err-clause-does : goal.returns-in-Err-clause-does
returns-in-Err-clause-does g c env serves w i j k l m =
    update_stops (λ code. code.now) (end_of (code_key c.args.code) c.in-Err.error) c.end_of.result c.args.code c.args.storage.now c.code_at.follows.lender-at-none c.args.events.now c.args.budget.now (copied c.args.copy.now)
    (c.end_of.ensures ∙ ap (λ (key : LedgerKey). end_of key c.in-Err.error) c.code_key.ensures.key) (rw c.in-Err.is at c.code_at.follows.holds-at-none).0 env serves w i j k m

pub returns-in-Err-clause-read : goal.returns-in-Err-clause-read
returns-in-Err-clause-read g c = c.code_at.follows.holds-at-none.1
