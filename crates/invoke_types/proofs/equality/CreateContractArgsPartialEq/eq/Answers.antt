use Rattle.std.proofs.Common.{rules}
use Rattle.value_types.specs.Equality.{as_is_same}
use Rattle.invoke_types.specs.Equality.{coded_create}
use Rattle.invoke_types.proofs.equality.CreateContractArgsPartialEq.eq.Goals as goal

pub returns-then-eq-clause-eq : goal.returns-then-eq-clause-eq
returns-then-eq-clause-eq c = as_is_same coded_create _ _ _ (search rules)

pub returns-else-eq-clause-eq : goal.returns-else-eq-clause-eq
returns-else-eq-clause-eq c = as_is_same coded_create _ _ _ (search rules)
