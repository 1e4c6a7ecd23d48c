use Rattle.module_loader.proofs.Exact.{exact}
use Rattle.module_loader.proofs.laws.loaded_is_exact.Goals as goal

pub returns : goal.returns
returns c = exact
