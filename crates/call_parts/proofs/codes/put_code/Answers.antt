use Rattle.call_parts.proofs.Stepping.{code_written, code_unwritten}
use Rattle.call_parts.proofs.codes.put_code.Goals as goal

pub returns-in-Ok-clause-does : goal.returns-in-Ok-clause-does
returns-in-Ok-clause-does g c =
    code_written tt c.args.hash c.args.code.now c.code_key-key.result c.in_ok-entry.entry c.args.n c.args.storage.now c.put.new.storage c.args.budget.now c.put.new.budget c.code_key-key.ensures.key c.in_ok-entry.ensures.entry
    c.requires.number c.put.ensures.later c.in-Ok.ensures.does

pub returns-in-Err-clause-does : goal.returns-in-Err-clause-does
returns-in-Err-clause-does g c =
    code_unwritten c.in-Err.error c.args.hash c.args.code.now c.code_key-key.result c.in_ok-entry.entry c.args.n c.args.storage.now c.put.new.storage c.args.budget.now c.put.new.budget c.code_key-key.ensures.key c.in_ok-entry.ensures.entry
    c.requires.number c.in-Err.ensures.does
