-- The lemmas that other crates cite.
pub use Rattle.object_store.proofs.Showing.{object_has_tag, type_has_tag}
pub use Rattle.object_store.proofs.SmallHosted.{characters_are_bytes, scalar_hosted}
