use Rattle.module_loader.proofs.Exact.{module_exact}
use Rattle.module_loader.proofs.laws.module_of_is_exact.Goals as goal

pub returns : goal.returns
returns c = module_exact
