-- The lemmas that other crates cite.
pub use Rattle.call_parts.proofs.Joining.{charges_steps, charges_stop, charges_then, goes, returns_charges, serves_later}
pub use Rattle.call_parts.proofs.Joining.{steps_as, stops}
pub use Rattle.call_parts.proofs.Making.{AllMake, make_paid, make_refused, make_there}
