use Rattle.wasm_run.proofs.Fold.{never_breaks}
use Rattle.wasm_run.proofs.laws.never_breaks.Goals as goal

pub returns : goal.returns
returns g c = never_breaks
