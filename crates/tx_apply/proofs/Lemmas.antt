-- The lemmas that other crates cite.
pub use Rattle.tx_apply.proofs.Arguments.{encodable_arguments, passed_arguments, stopped_arguments}
pub use Rattle.tx_apply.proofs.Fitting.{body_at, function_fits}
pub use Rattle.tx_apply.proofs.Running.{meter_is}
