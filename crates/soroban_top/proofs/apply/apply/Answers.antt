use Rattle.std.proofs.Common.{◌∷◌, ℕ, List, Option, ap, ap₂, ◌∙◌}
use Rattle.apply_spec.specs.Outputs.{Outputs}
use Rattle.std.proofs.lemmas.Result.{err_from_is_err_and}
use Rattle.command_io.specs.Product.{File, file}
use Rattle.command_io.specs.Seen.{seen}
use Rattle.command_io.specs.Views.{made_of}
use Rattle.command_io.proofs.Lemmas.{cause_of_last}
use Rattle.soroban_top.specs.Asked.{schedule_files}
use Rattle.soroban_top.specs.LogStored.{log_after, log_bytes}
use Rattle.soroban_top.specs.Outcome.{applied}
use Rattle.soroban_top.proofs.Logging.{has_read, log_file, log_plays, outcome_is, stored_is}
use Rattle.soroban_top.proofs.apply.apply.Goals as goal

pub returns-in_err-scheduled-clause-cause : goal.returns-in_err-scheduled-clause-cause
returns-in_err-scheduled-clause-cause g c =
    let request = c.args.request.now in
    let p = err_from_is_err_and c.from_residual-in_err-scheduled.result c.from_residual-in_err-scheduled.ensures.1 in
    rw (p.1, p.2) (cause_of_last (file 1 request.ledger) (file 2 request.verdicts) (file 0 request.set) (schedule_files request.schedule) _ _ _ _ _ c.in_err-scheduled.field-0.0
    c.in_ok-ledger.ensures.counts c.in_ok-verdicts.ensures.counts c.in_ok-set.ensures.counts c.in_err-scheduled.ensures.cause)

pub returns-clause-given : goal.returns-clause-given
returns-clause-given g c =
    let request = c.args.request.now in
    let ledger = seen c.in_ok-ledger.ledger in
    let verdicts = c.in_ok-verdicts.verdicts in
    let set = c.in_ok-set.set in
    let scheduled = c.in_ok-scheduled.scheduled in
    outcome_is request _ ledger verdicts set scheduled (made_of c.in_ok-product.product)
    (has_read request _ _ _ _ ledger verdicts set scheduled c.in_ok-ledger.ensures.given c.in_ok-ledger.ensures.same
    c.in_ok-verdicts.ensures.given c.in_ok-verdicts.ensures.same c.in_ok-set.ensures.given c.in_ok-set.ensures.same
    c.in_ok-scheduled.ensures.given) c.in_ok-outputs.ensures.free
    (c.in_ok-product.ensures.made
    ∙ ap₂ (λ (l : Option (List ℕ)) (o : Outputs). log_after request.log l (applied (file 3 request.report) (file 4 request.ledger_out) o))
    c.in_ok-outputs.ensures.log c.in_ok-outputs.ensures.outputs
    ∙ stored_is scheduled request.log c.is_some.result (log_bytes ledger verdicts set request.close_time) _ c.is_some.ensures)

pub returns-clause-steady_exact : goal.returns-clause-steady_exact
returns-clause-steady_exact g c steady = returns-clause-given g c

pub returns-clause-targets : goal.returns-clause-targets
returns-clause-targets g c =
    let request = c.args.request.now in
    let bytes = log_bytes (seen c.in_ok-ledger.ledger) c.in_ok-verdicts.verdicts c.in_ok-set.set request.close_time in
    c.in_ok-product.ensures.targets
    ∙ ap (λ (fs : List File). file 3 request.report ∷ file 4 request.ledger_out ∷ fs)
    (log_file request.schedule c.in_ok-scheduled.scheduled request.log c.is_some.result bytes c.in_ok-outputs.outputs.log
    c.in_ok-scheduled.ensures.asked c.is_some.ensures c.in_ok-outputs.ensures.log)

pub returns-clause-plays : goal.returns-clause-plays
returns-clause-plays g c =
    let request = c.args.request.now in
    let ledger = seen c.in_ok-ledger.ledger in
    let verdicts = c.in_ok-verdicts.verdicts in
    let set = c.in_ok-set.set in
    let scheduled = c.in_ok-scheduled.scheduled in
    log_plays request _ ledger verdicts set scheduled c.is_some.result
    (has_read request _ _ _ _ ledger verdicts set scheduled c.in_ok-ledger.ensures.given c.in_ok-ledger.ensures.same
    c.in_ok-verdicts.ensures.given c.in_ok-verdicts.ensures.same c.in_ok-set.ensures.given c.in_ok-set.ensures.same
    c.in_ok-scheduled.ensures.given) c.is_some.ensures c.in_ok-outputs.ensures.plays
