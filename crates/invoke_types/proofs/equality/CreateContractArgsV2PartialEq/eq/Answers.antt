use Rattle.std.proofs.Common.{rules}
use Rattle.value_types.specs.Equality.{as_is_same}
use Rattle.invoke_types.specs.Equality.{coded_create_v2}
use Rattle.invoke_types.proofs.equality.CreateContractArgsV2PartialEq.eq.Goals as goal

pub returns-then-eq-2-clause-eq : goal.returns-then-eq-2-clause-eq
returns-then-eq-2-clause-eq c = as_is_same coded_create_v2 _ _ _ (search rules)

pub returns-else-eq-2-clause-eq : goal.returns-else-eq-2-clause-eq
returns-else-eq-2-clause-eq c = as_is_same coded_create_v2 _ _ _ (search rules)
