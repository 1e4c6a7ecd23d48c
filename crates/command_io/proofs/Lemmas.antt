-- The lemmas that other crates cite.
pub use Rattle.command_io.proofs.Causes.{cause_of_last}
pub use Rattle.command_io.proofs.Decoding.{envelopes_lawful, refuses_decoded}
