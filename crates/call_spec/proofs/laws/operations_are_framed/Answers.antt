use Rattle.call_spec.proofs.Framed.{frame_law}
use Rattle.call_spec.proofs.laws.operations_are_framed.Goals as goal

pub returns : goal.returns
returns c = frame_law
