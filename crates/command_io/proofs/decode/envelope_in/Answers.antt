use Rattle.std.proofs.Common.{arith, refl}
use Rattle.std.proofs.lemmas.Result.{err_from_is_err_and}
use Rattle.tx_xdr.specs.Envelope.{envelope_format, envelope_lawful}
use Rattle.xdr_spec.proofs.Lemmas.{spells_decoded}
use Rattle.command_io.specs.Inputs.{envelope_in}
use Rattle.command_io.proofs.Decoding.{unread_due}
use Rattle.command_io.proofs.decode.envelope_in.Goals as goal

pub returns-in_err-envelope-clause-given : goal.returns-in_err-envelope-clause-given
unfolding envelope_in
returns-in_err-envelope-clause-given c =
    let p = err_from_is_err_and c.from_residual.result c.from_residual.ensures.1 in
    rw (p.1, p.2) (unread_due envelope_format envelope_lawful c.args.bytes.now c.in_err-envelope.field-0.0 (λ i. let fits = c.type_inv.bytes i in omega arith) c.in_err-envelope.ensures.refused)

pub returns-clause-given : goal.returns-clause-given
unfolding envelope_in
returns-clause-given c = rw (spells_decoded envelope_format envelope_lawful c.in_ok-envelope.envelope c.args.bytes.now c.in_ok-envelope.ensures.found) refl
