-- The lemmas that other crates cite.
pub use Rattle.spelled_order.proofs.Deciding.{both, first, of_one_length, whole, word_first}
pub use Rattle.spelled_order.proofs.Links.{text_spelled, value_spelled}
