use Rattle.std.proofs.lemmas.Result.{err_from_is_err_and}
use Rattle.object_store.specs.Shown.{shown_of}
use Rattle.host_ledger.specs.Traced.{leaving}
use Rattle.call_host.proofs.Framing.{write_failed}
use Rattle.call_host.proofs.frames.finish.Goals as goal

pub returns-in_err-write_if_changed-clause-does : goal.returns-in_err-write_if_changed-clause-does
returns-in_err-write_if_changed-clause-does g c env serves w i j shown contract first copy =
    let left = leaving c.args.storage.now c.write_if_changed.new.storage w.trace (λ trace. record w { entries = c.write_if_changed.new.storage.map; trace = trace; meter = c.write_if_changed.new.budget }) in
    let p = err_from_is_err_and c.from_residual-in_err-write_if_changed.result c.from_residual-in_err-write_if_changed.ensures.1 in
    rw (p.1, p.2) (write_failed c.in_err-write_if_changed.field-0.0 c.in_ok-value.value env c.args.word (shown_of c.args.objects.now c.args.frame.now.shown) w left shown
    c.in_ok-value.ensures.does (c.in_err-write_if_changed.ensures.does env serves w i j contract first copy))
