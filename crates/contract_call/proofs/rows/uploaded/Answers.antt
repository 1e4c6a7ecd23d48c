use Rattle.contract_call.proofs.Answering.{upload_failed, upload_good}
use Rattle.contract_call.proofs.rows.uploaded.Goals as goal

pub returns-in-Err-clause-does : goal.returns-in-Err-clause-does
returns-in-Err-clause-does g c = upload_failed c.in-Err.error c.args.code.now c.args.storage.now c.upload.new.storage c.args.budget.now c.upload.new.budget c.in-Err.ensures.does

pub returns-in-Ok-clause-does : goal.returns-in-Ok-clause-does
returns-in-Ok-clause-does g c =
    upload_good c.in-Ok.hash c.hash_answer.result c.args.code.now c.args.storage.now c.upload.new.storage c.args.budget.now c.upload.new.budget c.hash_answer.ensures.value c.hash_answer.ensures.memory c.in-Ok.ensures.does
