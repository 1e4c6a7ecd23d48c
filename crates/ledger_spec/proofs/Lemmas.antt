-- The lemmas that other crates cite.
pub use Rattle.ledger_spec.proofs.Keeping.{inserted, kept_at}
pub use Rattle.ledger_spec.proofs.Life.{live_is}
