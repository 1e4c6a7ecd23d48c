use Rattle.std.proofs.Common.{refl}
use Rattle.call_spec.specs.HostFunctions.{MOST_FRAMES}
use Rattle.contract_call.proofs.works.most_frames.Goals as goal

pub returns : goal.returns
unfolding MOST_FRAMES
returns c = refl
