-- The lemmas that other crates cite.
pub use Rattle.auth_trees.proofs.Authorities.{goes_back_to, later_back, later_demanded, later_self, later_twice}
pub use Rattle.auth_trees.proofs.Deepest.{same_or_not, true_or_false}
