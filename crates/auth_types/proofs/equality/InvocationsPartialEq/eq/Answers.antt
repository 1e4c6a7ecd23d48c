use Rattle.value_types.specs.Equality.{as_is_same}
use Rattle.auth_types.specs.Equality.{coded_invocations}
use Rattle.auth_types.proofs.Same.{rows_decide}
use Rattle.auth_types.proofs.equality.InvocationsPartialEq.eq.Goals as goal

pub returns-clause-eq : goal.returns-clause-eq
returns-clause-eq c = as_is_same coded_invocations _ _ _ (rows_decide _ _ _ _ _ c.as_slice.ensures c.as_slice-2.ensures c.same_row.ensures)

pub returns-clause-exact : goal.returns-clause-exact
returns-clause-exact c = rows_decide _ _ _ _ _ c.as_slice.ensures c.as_slice-2.ensures c.same_row.ensures
