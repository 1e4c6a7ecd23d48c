use Rattle.contract_storage.proofs.Going.{goes_back, later_back}
use Rattle.contract_storage.proofs.laws.restore_goes_back.Goals as goal

pub returns-clause-back : goal.returns-clause-back
returns-clause-back c = goes_back

pub returns-clause-later : goal.returns-clause-later
returns-clause-later c = later_back
