use Rattle.host_interface.specs.Named.{import_named}
use Rattle.conformance.proofs.Naming.{ready_after}
use Rattle.conformance.proofs.host.ledger_calls.named_call.Goals as goal

pub returns : goal.returns
returns g c = ready_after c.ledger_call.result (import_named c.args.letter.now c.args.name.now) c.args.words.now c.args.host.now c.ledger_call.new.host c.ledger_call.ensures.does
