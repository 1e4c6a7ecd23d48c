use Rattle.std.proofs.Common.{Result}
use Rattle.value_types.specs.Views.{datums}
use Rattle.host_spec.specs.declared.error.ValueErr.{ValueErr}
use Rattle.call_spec.specs.Entering.{entering}
use Rattle.auth_parts.proofs.Passing.{by_error, EntersValue, entered_more, entered_ends, hosted_more}
use Rattle.auth_parts.proofs.entering.enter_all.Goals as goal

pub returns-in_err-enter_one-clause-does : goal.returns-in_err-enter_one-clause-does
returns-in_err-enter_one-clause-does c =
    let vs = c.args.values.now in
    let first = c.args.budget.now in
    let after = c.enter_one.new.budget in
    let e : ValueErr = c.in_err-enter_one.field-0.0 in
    by_error (λ (r : Result (Unit {0}) ValueErr). EntersValue r (entering (datums vs)) first after) c.from_residual.result e c.from_residual.ensures.1
    (entered_ends vs first c.loop-value.budget after c.loop-value.value-index c.value-item.result e c.loop-value-test.true c.value-item.is c.loop-value.invariant.0 c.in_err-enter_one.ensures.does)

pub loop-value-preserved : goal.loop-value-preserved
loop-value-preserved c =
    let vs = c.args.values.now in
    let first = c.args.budget.now in
    let before = c.loop-value.budget in
    let after = c.enter_one.new.budget in (
      entered_more vs first before after c.loop-value.value-index c.value-item.result c.loop-value-test.true c.value-item.is c.loop-value.invariant.0 c.in_ok-enter_one.ensures.does,
      hosted_more vs first before after c.loop-value.value-index c.value-item.result c.loop-value-test.true c.value-item.is c.loop-value.invariant.1 c.in_ok-enter_one.ensures.hosted,
    )
