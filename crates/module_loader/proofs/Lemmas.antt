-- The lemmas that other crates cite.
pub use Rattle.module_loader.proofs.Exact.{exact}
