use Rattle.std.proofs.Common.{arith, refl}
use Rattle.std.proofs.lemmas.Result.{err_from_is_err_and}
use Rattle.tx_xdr.specs.Envelope.{envelopes_format}
use Rattle.xdr_spec.proofs.Lemmas.{spells_decoded}
use Rattle.command_io.specs.Inputs.{list_in}
use Rattle.command_io.proofs.Decoding.{unread_due, envelopes_lawful}
use Rattle.command_io.proofs.decode.list_in.Goals as goal

pub returns-in_err-list-clause-given : goal.returns-in_err-list-clause-given
unfolding list_in
returns-in_err-list-clause-given c =
    let p = err_from_is_err_and c.from_residual.result c.from_residual.ensures.1 in
    rw (p.1, p.2) (unread_due envelopes_format envelopes_lawful c.args.bytes.now c.in_err-list.field-0.0 (λ i. let fits = c.type_inv.bytes i in omega arith) c.in_err-list.ensures.refused)

pub returns-clause-given : goal.returns-clause-given
unfolding list_in
returns-clause-given c = rw (spells_decoded envelopes_format envelopes_lawful c.in_ok-list.list c.args.bytes.now c.in_ok-list.ensures.found) refl
