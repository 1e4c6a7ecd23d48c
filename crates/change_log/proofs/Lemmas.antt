-- The lemmas that other crates cite.
pub use Rattle.change_log.proofs.Back.{log_back}
pub use Rattle.change_log.proofs.Forward.{lead}
pub use Rattle.change_log.proofs.Keys.{at_keys, by_key, same_none_at}
pub use Rattle.change_log.proofs.Written.{changes_fit}
