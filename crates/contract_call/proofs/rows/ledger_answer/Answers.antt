use Rattle.contract_call.proofs.Answering.{does_call}
use Rattle.contract_call.proofs.rows.ledger_answer.Goals as goal

pub returns-clause-does : goal.returns-clause-does
returns-clause-does g c opener = does_call c.call_function.result c.args.import c.args.words.now c.args.host.now c.call_function.new.host c.call_function.ensures.does opener
