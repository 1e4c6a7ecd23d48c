use Rattle.std.specs.List.{AllByRecursion}
use Rattle.std.proofs.Common.{◌≤◌, ◌<◌, List, length, sym, subst, arith}
use Rattle.xdr_spec.specs.Format.{list}
use Rattle.invoke_types.specs.Event.{event_format}
use Rattle.invoke_types.specs.Success.{success_format}
use Rattle.invoke_types.specs.declared.event.ContractEvent.{ContractEvent}
use Rattle.host_frame.proofs.Lemmas.{hosted_fits}
use Rattle.tx_apply.proofs.call.success_of.Goals as goal

pub returns-clause-fits : goal.returns-clause-fits
unfolding success_format list
returns-clause-fits c = (
  hosted_fits c.args.value c.requires,
  subst (λ (es : List ContractEvent). (length es ≤ 4294967295) × (length es < 4294967296) × AllByRecursion event_format.fits es) (sym c.from_vec.ensures) (omega (arith, c.into_vec-events.ensures.few), omega (arith, c.into_vec-events.ensures.few), c.into_vec-events.ensures.fits),
)
