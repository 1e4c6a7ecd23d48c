use Rattle.std.proofs.Common.{sym, subst, ◌∙◌}
use Rattle.tx_xdr.specs.Soroban.{footprint_format}
use Rattle.tx_apply.proofs.Fitting.{body_at}
use Rattle.tx_steps.proofs.Lemmas.{declared_fits}
use Rattle.tx_apply.proofs.needs.needed.Goals as goal

pub returns-in-Some-clause-fits : goal.returns-in-Some-clause-fits
returns-in-Some-clause-fits g c = subst footprint_format.fits (sym (c.in_ok-clone.ensures.cases ∙ c.in-Some.ensures.kept.0)) (declared_fits c.args.tx.now c.requires.fits)

pub operation_needs-requires-clause-body : goal.operation_needs-requires-clause-body
operation_needs-requires-clause-body g c = body_at c.args.tx.now c.as_slice.result.now c.operation-item.result c.as_slice.ensures c.in-len1-up.len_at_least c.operation-item.is c.requires.fits
