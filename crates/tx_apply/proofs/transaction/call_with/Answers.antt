use Rattle.std.proofs.Common.{sym, subst}
use Rattle.tx_steps.specs.Effects.{CanEnd}
use Rattle.tx_steps.proofs.Lemmas.{malformed_can}
use Rattle.tx_apply.proofs.transaction.call_with.Goals as goal

pub returns-in-None-clause-can : goal.returns-in-None-clause-can
returns-in-None-clause-can g c = subst CanEnd (sym c.without_effect.ensures.done) malformed_can
