-- The lemmas that other crates cite.
pub use Rattle.wasm_machine.proofs.Counts.{Alike, Twins, call_alike}
pub use Rattle.wasm_machine.proofs.LeftLaws.{begins_enough, executed_is, executed_paid, later_enough}
pub use Rattle.wasm_machine.proofs.SimCalls.{function_at}
pub use Rattle.wasm_machine.proofs.SimStart.{import_starts, own_starts}
