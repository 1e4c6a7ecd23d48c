use Rattle.wasm_spec.proofs.Lemmas.{sums_grow}
use Rattle.wasm_run.proofs.laws.sums_grow.Goals as goal

pub returns : goal.returns
returns g c = sums_grow
