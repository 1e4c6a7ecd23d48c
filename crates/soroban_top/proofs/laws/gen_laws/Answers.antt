use Rattle.soroban_top.proofs.Generated.{gen_law}
use Rattle.soroban_top.proofs.laws.gen_laws.Goals as goal

pub returns : goal.returns
returns c = gen_law
