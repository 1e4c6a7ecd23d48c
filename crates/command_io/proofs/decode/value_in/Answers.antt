use Rattle.std.proofs.Common.{arith, refl}
use Rattle.std.proofs.lemmas.Result.{err_from_is_err_and}
use Rattle.value_types.specs.Formats.{scval_format}
use Rattle.value_types.proofs.Lemmas.{scval_lawful}
use Rattle.xdr_spec.proofs.Lemmas.{spells_decoded}
use Rattle.command_io.specs.Inputs.{value_in}
use Rattle.command_io.proofs.Decoding.{unread_due}
use Rattle.command_io.proofs.decode.value_in.Goals as goal

pub returns-in_err-value-clause-given : goal.returns-in_err-value-clause-given
unfolding value_in
returns-in_err-value-clause-given c =
    let p = err_from_is_err_and c.from_residual.result c.from_residual.ensures.1 in
    rw (p.1, p.2) (unread_due scval_format scval_lawful c.args.bytes.now c.in_err-value.field-0.0 (λ i. let fits = c.type_inv.bytes i in omega arith) c.in_err-value.ensures.refused)

pub returns-clause-given : goal.returns-clause-given
unfolding value_in
returns-clause-given c = rw (spells_decoded scval_format scval_lawful c.in_ok-value.value c.args.bytes.now c.in_ok-value.ensures.found) refl
