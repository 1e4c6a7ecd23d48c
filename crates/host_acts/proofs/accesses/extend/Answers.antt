use Rattle.std.proofs.Common.{Err}
use Rattle.host_acts.proofs.Linking.{extend_yields}
use Rattle.host_acts.proofs.accesses.extend.Goals as goal

pub returns-in-Err-clause-does : goal.returns-in-Err-clause-does
returns-in-Err-clause-does g c =
    extend_yields (Err c.in-Err.error) (Err c.end_of.result) c.args.key c.args.threshold c.args.extend_to c.args.storage.now c.extend.new.self c.requires.fits c.requires.unless_backward c.in-Err.ensures c.end_of.ensures
