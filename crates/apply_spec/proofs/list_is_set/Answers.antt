use Rattle.apply_spec.proofs.Listed.{list_stages}
use Rattle.apply_spec.proofs.list_is_set.Goals as goal

pub returns : goal.returns
returns c = list_stages
