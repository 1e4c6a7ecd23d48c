use Rattle.std.proofs.Common.{sym, subst, ◌∙◌}
use Rattle.tx_steps.specs.Effects.{CanEnd}
use Rattle.stage_runs.proofs.Lemmas.{declared_spelled}
use Rattle.tx_steps.proofs.Lemmas.{refused_can}
use Rattle.tx_apply.proofs.Fitting.{body_at}
use Rattle.tx_apply.proofs.transaction.run_transaction.Goals as goal

pub refusal_of-requires-clause-read_only : goal.refusal_of-requires-clause-read_only
refusal_of-requires-clause-read_only g c = (declared_spelled c.args.tx.now c.requires.fits).0

pub refusal_of-requires-clause-read_write : goal.refusal_of-requires-clause-read_write
refusal_of-requires-clause-read_write g c = (declared_spelled c.args.tx.now c.requires.fits).1

pub returns-in-Some-clause-can : goal.returns-in-Some-clause-can
returns-in-Some-clause-can g c =
    subst CanEnd (sym c.without_effect.ensures.done) (refused_can c.args.header.now c.args.tx.now c.in-Some.outcome (sym c.in_ok-outcome.ensures ∙ c.in-Some.is))

pub perform-requires-clause-body : goal.perform-requires-clause-body
perform-requires-clause-body g c = body_at c.args.tx.now c.as_slice.result.now c.operation-item.result c.as_slice.ensures c.in-len1-up.len_at_least c.operation-item.is c.requires.fits

pub perform-requires-clause-read_only : goal.perform-requires-clause-read_only
perform-requires-clause-read_only g c = (declared_spelled c.args.tx.now c.requires.fits).0

pub perform-requires-clause-read_write : goal.perform-requires-clause-read_write
perform-requires-clause-read_write g c = (declared_spelled c.args.tx.now c.requires.fits).1
