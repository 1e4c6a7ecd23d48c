use Rattle.contract_storage.proofs.Going.{goes_on}
use Rattle.contract_storage.proofs.laws.release_goes_on.Goals as goal

pub returns : goal.returns
returns c = goes_on
