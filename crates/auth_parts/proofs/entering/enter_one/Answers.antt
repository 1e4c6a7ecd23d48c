use Rattle.std.proofs.Common.{◌≡◌, ℕ, [], ◌∷◌, Result, Ok, Err, subst}
use Rattle.budget_meter.specs.declared.kind.Kind.TheVariants.{ValDeser}
use Rattle.value_types.specs.Views.{datum}
use Rattle.host_spec.specs.Hosted.{size_of}
use Rattle.host_spec.specs.declared.error.ValueErr.{ValueErr}
use Rattle.call_spec.specs.Entering.{entering}
use Rattle.auth_parts.proofs.Passing.{by_error, Charged, EntersValue, uncapped, charge_enters, one_enters, one_charge_enters}
use Rattle.auth_parts.proofs.entering.enter_one.Goals as goal

pub returns-in_err-charge-clause-does : goal.returns-in_err-charge-clause-does
returns-in_err-charge-clause-does c =
    let d = datum c.args.value.now in
    let before = c.args.budget.now in
    let after = c.charge.new.budget in
    let e : ValueErr = c.in_err-charge.field-0.0 in
    let size : c.measured-size.result ≡ size_of d = uncapped c.measured-size.result (size_of d) c.measured-size.ensures c.if-size.false in
    by_error (λ (r : Result (Unit {0}) ValueErr). EntersValue r (entering (d ∷ [])) before after) c.from_residual.result e c.from_residual.ensures.1
    (one_charge_enters d before after e (subst (λ (n : ℕ). let r : Result (Unit {0}) ValueErr = Err e in Charged r ValDeser n before after) size c.in_err-charge.ensures))

pub returns-clause-does : goal.returns-clause-does
returns-clause-does c =
    let d = datum c.args.value.now in
    let before = c.args.budget.now in
    let after = c.charge.new.budget in
    let size : c.measured-size.result ≡ size_of d = uncapped c.measured-size.result (size_of d) c.measured-size.ensures c.if-size.false in
    one_enters d before after c.argument_entry.result
    (charge_enters ValDeser (size_of d) before after (Ok tt) (subst (λ (n : ℕ). let r : Result (Unit {0}) ValueErr = Ok tt in Charged r ValDeser n before after) size c.in_ok-charge.ensures))
    c.argument_entry.ensures.does
