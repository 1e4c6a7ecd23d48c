use Rattle.host_ledger.proofs.Lemmas.{put_spelled}
use Rattle.call_parts.proofs.Writing.{put_paid, put_refused}
use Rattle.call_parts.proofs.accesses.put.Goals as goal

pub returns-in-Ok-clause-does : goal.returns-in-Ok-clause-does
returns-in-Ok-clause-does g c =
    put_paid c.pay.result c.args.key c.args.entry c.size_of-size.result c.args.storage.now c.put.new.self c.args.budget.now c.pay.new.budget c.requires.key c.size_of-size.ensures c.requires.fits c.in-Ok.ensures c.pay.ensures.does
    c.pay.ensures.spent

pub returns-in-Err-clause-does : goal.returns-in-Err-clause-does
returns-in-Err-clause-does g c =
    put_refused c.in-Err.error c.end_of.result c.args.key c.args.entry c.args.storage.now c.put.new.self c.args.budget.now c.requires.key c.end_of.ensures c.requires.fits c.in-Err.ensures

pub returns-in-Err-clause-key : goal.returns-in-Err-clause-key
returns-in-Err-clause-key g c = put_spelled c.in-Err.error c.end_of.result c.args.entry c.args.key c.requires.key c.requires.fits c.end_of.ensures
