use Rattle.std.proofs.Common.{arith}
use Rattle.host_frame.proofs.Lemmas.{shallow_fits}
use Rattle.auth_record.proofs.bounded.value_fits.Goals as goal

pub returns : goal.returns
returns c good = shallow_fits c.args.value.now (c.is_bounded.ensures good) (omega (arith, c.depth.ensures))
