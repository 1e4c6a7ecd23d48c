-- The lemmas that other crates cite.
pub use Rattle.value_xdr.proofs.Levels.{collection, collection_fits, collection_read, collection_refused}
pub use Rattle.value_xdr.proofs.Linked.{value_linked}
pub use Rattle.value_xdr.proofs.Sizes.{error_bytes}
pub use Rattle.value_xdr.proofs.Written.{value_bounded, value_bytes-datum}
