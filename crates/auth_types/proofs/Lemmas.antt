-- The lemmas that other crates cite.
pub use Rattle.auth_types.proofs.Linked.{invocation_linked}
pub use Rattle.auth_types.proofs.Parts.{size_at}
