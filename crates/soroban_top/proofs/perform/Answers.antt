use Rattle.std.proofs.Common.{refl}
use Rattle.std.proofs.lemmas.Result.{err_from_is_err_and}
use Rattle.command_words.specs.Words.{asked_of}
use Rattle.soroban_top.specs.Asked.{reads_named}
use Rattle.soroban_top.specs.Outcome.{outcome_if}
use Rattle.soroban_top.proofs.Leaving.{stopped_asking}
use Rattle.soroban_top.proofs.perform.Goals as goal

pub returns-in_err-request-clause-left : goal.returns-in_err-request-clause-left
returns-in_err-request-clause-left g c =
    let p = err_from_is_err_and c.from_residual.result c.from_residual.ensures.1 in
    rw (p.1, p.2) (stopped_asking _ _ _ c.in_err-request.field-0.0 (asked_of c.args.words.now) (reads_named (asked_of c.args.words.now)) (λ m. outcome_if (asked_of c.args.words.now) m) refl c.in_err-request.ensures.request)
