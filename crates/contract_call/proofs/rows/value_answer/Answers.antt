use Rattle.contract_call.proofs.Valuing.{does_over}
use Rattle.contract_call.proofs.rows.value_answer.Goals as goal

pub returns-clause-does : goal.returns-clause-does
returns-clause-does g c =
    does_over c.value_in.result c.args.import c.args.words.now c.args.memory.now c.value_in.new.memory c.args.host.now c.value_in.new.ledger c.value_in.ensures.does
