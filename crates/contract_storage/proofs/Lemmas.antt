-- The lemmas that other crates cite.
pub use Rattle.contract_storage.specs.Places.{at}
pub use Rattle.contract_storage.proofs.Going.{again, goes_back, goes_half_on, goes_on, later_back}
pub use Rattle.contract_storage.proofs.Laying.{antisymmetric, at_inserted, at_lookup, equal_from, order, set_gets}
pub use Rattle.contract_storage.proofs.Tabling.{kept_below, same_bytes}
