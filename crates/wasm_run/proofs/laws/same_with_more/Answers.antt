use Rattle.wasm_run.proofs.Counts.{same_with_more}
use Rattle.wasm_run.proofs.laws.same_with_more.Goals as goal

pub returns : goal.returns
returns g c = same_with_more
