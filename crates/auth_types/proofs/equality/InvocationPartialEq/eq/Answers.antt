use Rattle.value_types.specs.Equality.{as_is_same}
use Rattle.auth_types.specs.Equality.{coded_invocation}
use Rattle.auth_types.proofs.equality.InvocationPartialEq.eq.Goals as goal

pub returns-clause-eq : goal.returns-clause-eq
returns-clause-eq c = as_is_same coded_invocation _ _ _ c.same_invocation.ensures
