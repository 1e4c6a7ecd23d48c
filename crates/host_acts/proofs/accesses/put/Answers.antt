use Rattle.host_acts.proofs.Putting.{put_paid_at, put_refused_at}
use Rattle.host_acts.proofs.Spelling.{put_spelled}
use Rattle.host_acts.proofs.accesses.put.Goals as goal

pub returns-in-Ok-clause-does : goal.returns-in-Ok-clause-does
returns-in-Ok-clause-does g c =
    put_paid_at c.paid.result c.args.entry c.args.key c.size_of-size.result c.args.storage.now c.put.new.self c.args.budget.now c.paid.new.budget c.requires.key c.size_of-size.ensures c.requires.fits c.in-Ok.ensures c.paid.ensures.does

pub returns-in-Err-clause-does : goal.returns-in-Err-clause-does
returns-in-Err-clause-does g c =
    put_refused_at c.in-Err.error c.args.entry c.args.key c.end_of.result c.args.storage.now c.put.new.self c.args.budget.now c.requires.key c.end_of.ensures c.requires.fits c.in-Err.ensures

pub returns-in-Err-clause-key : goal.returns-in-Err-clause-key
returns-in-Err-clause-key g c = put_spelled c.in-Err.error c.end_of.result c.args.entry c.args.key c.requires.key c.requires.fits c.end_of.ensures
