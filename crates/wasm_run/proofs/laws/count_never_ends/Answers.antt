use Rattle.wasm_spec.specs.Runs.{Spent}
use Rattle.wasm_machine.proofs.Lemmas.{begins_enough, executed_is, executed_paid, later_enough}
use Rattle.wasm_run.proofs.laws.count_never_ends.Goals as goal

pub returns : goal.returns
returns c = record {
  at_first = begins_enough;
  after_each = executed_paid;
  when_later = later_enough;
  is_charge = λ s go enough one. executed_is Spent s go enough one;
}
