-- The lemmas that other crates cite.
pub use Rattle.tx_steps.proofs.Effects.{archived_fits, call_failed_can, limit_fits, malformed_call_fits, malformed_can, refused_can}
pub use Rattle.tx_steps.proofs.Effects.{restore_can}
pub use Rattle.tx_steps.proofs.Footprints.{declared_fits}
pub use Rattle.tx_steps.proofs.Mapped.{can_from, done_from, ended_can, ended_done}
