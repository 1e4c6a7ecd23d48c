-- The lemmas that other crates cite.
pub use Rattle.auth_parts.proofs.Splitting.{entry_asked}
