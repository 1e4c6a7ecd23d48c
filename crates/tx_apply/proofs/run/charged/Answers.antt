use Rattle.std.proofs.Common.{Result}
use Rattle.value_types.specs.declared.value.ScVal.{ScVal}
use Rattle.host_spec.specs.Ends.{host_end}
use Rattle.host_spec.specs.declared.error.ValueErr.{ValueErr}
use Rattle.host_spec.specs.declared.error.HostErr.{HostErr}
use Rattle.tx_apply.specs.Running.{Charges}
use Rattle.tx_apply.proofs.Ending.{by_error, charge_refused}
use Rattle.tx_apply.proofs.run.charged.Goals as goal

pub returns-in_err-charge_value : goal.returns-in_err-charge_value
returns-in_err-charge_value c =
    let e : ValueErr = c.in_err-charge_value.field-0.0 in
    by_error (λ (r : Result ScVal HostErr). Charges r c.args.value c.args.budget.now c.charge_value.new.budget) c.from_residual.result (host_end e) c.from_residual.ensures.1
    (charge_refused e c.args.value c.args.budget.now c.charge_value.new.budget c.in_err-charge_value.ensures)
