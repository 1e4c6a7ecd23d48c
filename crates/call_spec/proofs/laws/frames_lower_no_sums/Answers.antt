use Rattle.call_spec.proofs.Growing.{sums_grow_law}
use Rattle.call_spec.proofs.laws.frames_lower_no_sums.Goals as goal

pub returns : goal.returns
returns c = sums_grow_law
