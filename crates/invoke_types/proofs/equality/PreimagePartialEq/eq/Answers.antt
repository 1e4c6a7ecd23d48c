use Rattle.std.proofs.Common.{rules}
use Rattle.value_types.specs.Equality.{as_is_same}
use Rattle.invoke_types.specs.Equality.{coded_preimage}
use Rattle.invoke_types.proofs.equality.PreimagePartialEq.eq.Goals as goal

pub returns-then-eq-clause-eq : goal.returns-then-eq-clause-eq
returns-then-eq-clause-eq c = as_is_same coded_preimage _ _ _ (search rules)

pub returns-else-eq-clause-eq : goal.returns-else-eq-clause-eq
returns-else-eq-clause-eq c = as_is_same coded_preimage _ _ _ (search rules)

pub returns-in-FromAsset-other-clause-eq : goal.returns-in-FromAsset-other-clause-eq
returns-in-FromAsset-other-clause-eq c = as_is_same coded_preimage _ _ _ (search rules)

pub returns-in-FromAsset-other-2-clause-eq : goal.returns-in-FromAsset-other-2-clause-eq
returns-in-FromAsset-other-2-clause-eq c = as_is_same coded_preimage _ _ _ (search rules)

pub returns-in-FromAddress-other-2-clause-eq : goal.returns-in-FromAddress-other-2-clause-eq
returns-in-FromAddress-other-2-clause-eq c = as_is_same coded_preimage _ _ _ (search rules)
