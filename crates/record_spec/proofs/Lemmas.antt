-- The lemmas that other crates cite.
pub use Rattle.record_spec.proofs.Agree.{enough_law}
