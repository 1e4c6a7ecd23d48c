-- The lemmas that other crates cite.
pub use Rattle.auth_notes.proofs.Counting.{child_test}
pub use Rattle.auth_notes.proofs.Spelling.{key_is}
