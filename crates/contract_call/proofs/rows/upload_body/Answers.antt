use Rattle.contract_call.proofs.Answering.{upload_runs}
use Rattle.contract_call.proofs.rows.upload_body.Goals as goal

pub returns-clause-does : goal.returns-clause-does
returns-clause-does g c =
    upload_runs c.uploaded.result c.args.values.now c.args.a c.in_ok-code.code.now c.args.storage.now c.uploaded.new.storage c.args.budget.now c.enter.new.budget c.uploaded.new.budget c.in_ok-code.ensures.means
    (c.in_ok-enter.ensures c.args.values.now) c.uploaded.ensures.does
