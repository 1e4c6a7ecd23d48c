use Rattle.module_vet.proofs.Exact.{exact}
use Rattle.module_vet.proofs.verdict_is_exact.Goals as goal

pub returns : goal.returns
returns c = exact
