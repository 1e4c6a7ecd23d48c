-- The lemmas that other crates cite.
pub use Rattle.code_cache.proofs.Crosses.{cache_sync}
