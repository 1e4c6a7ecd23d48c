use Rattle.contract_storage.proofs.Lemmas.{again}
use Rattle.host_ledger.proofs.Lemmas.{later_read}
use Rattle.call_parts.proofs.Stepping.{code_seen, code_stored, code_unseen}
use Rattle.call_parts.proofs.codes.store.Goals as goal

pub returns-in-Ok-true-clause-does : goal.returns-in-Ok-true-clause-does
returns-in-Ok-true-clause-does g c =
    code_seen c.in-Ok-true.field-0 c.args.hash c.args.code.now c.code_key-key.result c.args.storage.now c.is_there.new.storage c.args.budget.now c.code_key-key.ensures.key c.in-Ok-true.field-0-test
    c.in-Ok-true.ensures.read c.in-Ok-true.ensures.does

pub returns-in-Ok-true-clause-later : goal.returns-in-Ok-true-clause-later
returns-in-Ok-true-clause-later g c = later_read c.args.storage.now c.is_there.new.storage c.in-Ok-true.ensures.read

pub returns-in-Ok-false-clause-does : goal.returns-in-Ok-false-clause-does
returns-in-Ok-false-clause-does g c =
    code_stored c.in-Ok-false.field-0 c.put_code.result c.args.hash c.args.code.now c.code_key-key.result c.args.storage.now c.is_there.new.storage c.put_code.new.storage c.args.budget.now c.put_code.new.budget
    c.code_key-key.ensures.key c.in-Ok-false.field-0-test c.in-Ok-false.ensures.read c.in-Ok-false.ensures.does c.put_code.ensures.does

pub returns-in-Ok-false-clause-later : goal.returns-in-Ok-false-clause-later
returns-in-Ok-false-clause-later g c =
    again c.args.storage.now c.is_there.new.storage c.put_code.new.storage (later_read c.args.storage.now c.is_there.new.storage c.in-Ok-false.ensures.read) c.put_code.ensures.later

pub returns-in-Err-clause-does : goal.returns-in-Err-clause-does
returns-in-Err-clause-does g c = code_unseen c.in-Err.error c.args.hash c.args.code.now c.code_key-key.result c.args.storage.now c.is_there.new.storage c.args.budget.now c.code_key-key.ensures.key c.in-Err.ensures.does

pub returns-in-Err-clause-later : goal.returns-in-Err-clause-later
returns-in-Err-clause-later g c = later_read c.args.storage.now c.is_there.new.storage c.in-Err.ensures.read
