-- The lemmas that other crates cite.
pub use Rattle.ledger_file.proofs.Digests.{IsBytes-sha256}
pub use Rattle.ledger_file.proofs.FromFile.{file_read}
pub use Rattle.ledger_file.proofs.Refused.{xdr_refused}
pub use Rattle.ledger_file.proofs.ToFile.{file_is_read}
