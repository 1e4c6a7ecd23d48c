-- The lemmas that other crates cite.
pub use Rattle.set_place.proofs.Placed.{applied_at}
