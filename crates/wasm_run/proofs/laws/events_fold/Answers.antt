use Rattle.wasm_run.proofs.Fold.{events_fold}
use Rattle.wasm_run.proofs.laws.events_fold.Goals as goal

pub returns : goal.returns
returns g c = events_fold
