use Rattle.call_parts.proofs.Reading.{there_found, there_refused}
use Rattle.call_parts.proofs.accesses.is_there.Goals as goal

pub returns-in-Ok-clause-does : goal.returns-in-Ok-clause-does
returns-in-Ok-clause-does g c = there_found c.in-Ok.there c.args.key c.args.storage.now c.has.new.self c.requires c.in-Ok.ensures

pub returns-in-Err-clause-does : goal.returns-in-Err-clause-does
returns-in-Err-clause-does g c = there_refused c.in-Err.error c.end_of.result c.args.key c.args.storage.now c.has.new.self c.requires c.end_of.ensures c.in-Err.ensures
