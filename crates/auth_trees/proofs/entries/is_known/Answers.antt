use Rattle.value_types.specs.Equality.{as_is_same}
use Rattle.auth_spec.specs.Demands.{coded_address}
use Rattle.auth_trees.proofs.entries.is_known.Goals as goal

pub returns-in-Some : goal.returns-in-Some
returns-in-Some c = rw c.in-Some.is (as_is_same coded_address _ _ _ c.eq.ensures.exact)
