use Rattle.std.proofs.Common.{◌≡◌, false, true}
use Rattle.value_types.specs.Equality.{as_is_same}
use Rattle.invoke_types.specs.Equality.{coded_function}
use Rattle.auth_trees.proofs.telling.is_same.Goals as goal

pub returns-then-are_told_apart : goal.returns-then-are_told_apart
returns-then-are_told_apart c = as_is_same coded_function _ _ false (λ (e : false ≡ true). absurd cc, λ e. absurd (c.are_told_apart.ensures c.if-are_told_apart.true e))
