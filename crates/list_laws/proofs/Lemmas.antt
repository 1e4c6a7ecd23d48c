-- The lemmas that other crates cite.
pub use Rattle.list_laws.proofs.Items.{all_push, all_same, get_left, get_right}
pub use Rattle.list_laws.proofs.Twice.{Holds, found_twice, none_twice, order, still_holds}
