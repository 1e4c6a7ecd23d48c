use Rattle.std.proofs.Common.{arith, refl}
use Rattle.std.proofs.lemmas.Result.{err_from_is_err_and}
use Rattle.change_log.specs.Log.{log_format, log_lawful}
use Rattle.xdr_spec.proofs.Lemmas.{spells_decoded}
use Rattle.command_io.specs.Inputs.{log_in}
use Rattle.command_io.proofs.Decoding.{unread_due}
use Rattle.command_io.proofs.decode.log_in.Goals as goal

pub returns-in_err-log-clause-given : goal.returns-in_err-log-clause-given
unfolding log_in
returns-in_err-log-clause-given c =
    let p = err_from_is_err_and c.from_residual.result c.from_residual.ensures.1 in
    rw (p.1, p.2) (unread_due log_format log_lawful c.args.bytes.now c.in_err-log.field-0.0 (λ i. let fits = c.type_inv.bytes i in omega arith) c.in_err-log.ensures.refused)

pub returns-clause-given : goal.returns-clause-given
unfolding log_in
returns-clause-given c = rw (spells_decoded log_format log_lawful c.in_ok-log.log c.args.bytes.now c.in_ok-log.ensures.found) refl
