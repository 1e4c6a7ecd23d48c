use Rattle.contract_call.proofs.Possible.{possible_law}
use Rattle.contract_call.proofs.laws.runs_are_possible.Goals as goal

pub returns : goal.returns
returns c code m name words index store meter is ready = possible_law code m name words index store meter is ready
