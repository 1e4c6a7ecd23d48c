-- The lemmas that other crates cite.
pub use Rattle.module_vet.proofs.Exact.{exact}
