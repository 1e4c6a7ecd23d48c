use Rattle.host_ledger.proofs.Steps.{call_ends, call_goes_on, middle_indices}
use Rattle.host_ledger.proofs.call.call_function.Goals as goal

pub show-requires-clause-indices : goal.show-requires-clause-indices
show-requires-clause-indices g c = middle_indices c.args.host.now c.answer.new.host c.requires.ready c.in-Ok.ensures.does.stays

pub returns-in-Ok-clause-does : goal.returns-in-Ok-clause-does
returns-in-Ok-clause-does g c =
    call_goes_on c.in-Ok.answer c.show.result c.args.import c.args.words.now c.args.host.now c.answer.new.host c.show.new.host c.requires.ready c.in-Ok.ensures.does c.show.ensures.does c.show.ensures.indices c.show.ensures.shows

pub returns-in-Err-clause-does : goal.returns-in-Err-clause-does
returns-in-Err-clause-does g c = call_ends c.in-Err.error c.args.import c.args.words.now c.args.host.now c.answer.new.host c.requires.ready c.in-Err.ensures.does
