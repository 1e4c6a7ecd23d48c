-- The lemmas that other crates cite.
pub use Rattle.value_types.proofs.Comparing.{cmp-text, rows-exact, then-Equal, then-assoc}
pub use Rattle.value_types.proofs.Growing.{instance_size}
pub use Rattle.value_types.proofs.KindLaws.{kind_lawful}
pub use Rattle.value_types.proofs.Lawful.{contract_instance_lawful, datum-scval, items_there, members_there, scval-datum}
pub use Rattle.value_types.proofs.Lawful.{scval_lawful, value_is}
pub use Rattle.value_types.proofs.Ordered.{value_decides}
pub use Rattle.value_types.proofs.Parts.{pair_size_at, size_at}
