use Rattle.std.proofs.Common.{arith, refl}
use Rattle.std.proofs.lemmas.Result.{err_from_is_err_and}
use Rattle.tx_xdr.specs.Set.{set_format, set_lawful}
use Rattle.xdr_spec.proofs.Lemmas.{spells_decoded}
use Rattle.command_io.specs.Inputs.{set_in}
use Rattle.command_io.proofs.Decoding.{unread_due}
use Rattle.command_io.proofs.decode.set_in.Goals as goal

pub returns-in_err-set-clause-given : goal.returns-in_err-set-clause-given
unfolding set_in
returns-in_err-set-clause-given c =
    let p = err_from_is_err_and c.from_residual.result c.from_residual.ensures.1 in
    rw (p.1, p.2) (unread_due set_format set_lawful c.args.bytes.now c.in_err-set.field-0.0 (λ i. let fits = c.type_inv.bytes i in omega arith) c.in_err-set.ensures.refused)

pub returns-clause-given : goal.returns-clause-given
unfolding set_in
returns-clause-given c = rw (spells_decoded set_format set_lawful c.in_ok-set.set c.args.bytes.now c.in_ok-set.ensures.found) refl
