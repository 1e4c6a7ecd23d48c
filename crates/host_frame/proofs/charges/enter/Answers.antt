use Rattle.budget_meter.specs.declared.kind.Kind.TheVariants.{DispatchHostFunction}
use Rattle.host_spec.specs.Acts.{state, charged}
use Rattle.host_spec.specs.Arguments.{dispatched, visited}
use Rattle.host_frame.proofs.Acting.{then_exit}
use Rattle.host_frame.proofs.charges.enter.Goals as goal

pub returns-in_err-charge : goal.returns-in_err-charge
unfolding dispatched
returns-in_err-charge c shown memory = then_exit (λ (u : Unit {0}). u) (λ (u : Unit {0}). u) (charged DispatchHostFunction 1 (state shown memory c.args.budget.now)) (λ _. visited c.args.words.now) (state shown memory c.charge.new.budget) c.from_residual.result c.in_err-charge.field-0.0 c.from_residual.ensures.1 (c.in_err-charge.ensures shown memory)

pub returns : goal.returns
unfolding dispatched
returns c shown memory = rw (c.in_ok-charge.ensures shown memory) (c.visit.ensures shown memory)
