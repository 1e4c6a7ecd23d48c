use Rattle.apply_spec.proofs.Framed.{step_framed}
use Rattle.apply_spec.proofs.step_is_framed.Goals as goal

pub returns : goal.returns
returns c header verdicts = step_framed header verdicts
