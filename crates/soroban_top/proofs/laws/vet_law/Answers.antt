use Rattle.soroban_top.proofs.Vets.{vet_as_verdict}
use Rattle.soroban_top.proofs.laws.vet_law.Goals as goal

pub returns : goal.returns
returns c = vet_as_verdict
