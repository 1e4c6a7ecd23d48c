use Rattle.value_types.specs.Equality.{as_is_same}
use Rattle.auth_spec.specs.Demands.{coded_address}
use Rattle.auth_record.proofs.trees.is_source.Goals as goal

pub returns : goal.returns
returns c = as_is_same coded_address _ _ _ c.eq.ensures.exact
