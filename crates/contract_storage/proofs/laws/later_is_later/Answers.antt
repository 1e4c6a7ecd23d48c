use Rattle.contract_storage.proofs.Doing.{unchanged}
use Rattle.contract_storage.proofs.Going.{again}
use Rattle.contract_storage.proofs.laws.later_is_later.Goals as goal

pub returns-clause-itself : goal.returns-clause-itself
returns-clause-itself c = unchanged

pub returns-clause-again : goal.returns-clause-again
returns-clause-again c = again
