-- The lemmas that other crates cite.
pub use Rattle.ledger_types.proofs.KeyLaws.{key_of_fits}
pub use Rattle.ledger_types.proofs.Ranking.{key_ranked}
