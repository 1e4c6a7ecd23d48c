use Rattle.std.proofs.lemmas.Result.{err_from_is_err_and}
use Rattle.command_io.specs.Steps.{status_of}
use Rattle.soroban_top.specs.Outcome.{outcome_of}
use Rattle.soroban_top.specs.Asked.{reads_of}
use Rattle.soroban_top.proofs.Leaving.{stopped_reading, second_where_known}
use Rattle.soroban_top.proofs.run.Goals as goal

pub returns-in_err-product-clause-left : goal.returns-in_err-product-clause-left
returns-in_err-product-clause-left g c =
    let p = err_from_is_err_and c.from_residual.result c.from_residual.ensures.1 in
    rw (p.1, p.2) (stopped_reading _ _ _ c.in_err-product.field-0.0 (reads_of c.args.request.now) (λ m. outcome_of c.args.request.now m) _ _ c.in_err-product.ensures.same c.in_err-product.ensures.cause)

pub returns-in_err-product-clause-steady : goal.returns-in_err-product-clause-steady
returns-in_err-product-clause-steady g c steady =
    second_where_known _ _ _ (λ m. status_of (outcome_of c.args.request.now m)) (c.in_err-product.ensures.steady steady)
