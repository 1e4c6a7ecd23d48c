use Rattle.wasm_spec.proofs.Lemmas.{executed_spends}
use Rattle.wasm_run.proofs.laws.each_spends.Goals as goal

pub returns : goal.returns
returns c = executed_spends
