use Rattle.contract_storage.proofs.Widening.{same_vecs}
use Rattle.contract_storage.proofs.wide.are_same_vecs.Goals as goal

pub returns-in-Some-Some : goal.returns-in-Some-Some
returns-in-Some-Some c = λ t. same_vecs _ _ _ _ _ _ c.in-Some-Some.is-0 c.in-Some-Some.is-1 c.as_slice.ensures c.as_slice-in-Some-Some.ensures (c.are_same_items.ensures t)
