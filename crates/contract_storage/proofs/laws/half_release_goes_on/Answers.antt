use Rattle.contract_storage.proofs.Going.{goes_half_on}
use Rattle.contract_storage.proofs.laws.half_release_goes_on.Goals as goal

pub returns : goal.returns
returns c = goes_half_on
