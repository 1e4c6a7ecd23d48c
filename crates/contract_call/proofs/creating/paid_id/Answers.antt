use Rattle.call_host.specs.Creations.{creation_of}
use Rattle.contract_call.specs.Made.{identifying}
use Rattle.contract_call.proofs.Constructing.{charges_around}
use Rattle.contract_call.proofs.creating.paid_id.Goals as goal

pub returns-clause-does : goal.returns-clause-does
returns-clause-does g c =
    charges_around c.paid_id_in.result (λ id. id) (λ env. identifying env (creation_of c.args.contract.now)) c.args.host.now c.paid_id_in.new.ledger c.paid_id_in.ensures.kept c.paid_id_in.ensures.does
