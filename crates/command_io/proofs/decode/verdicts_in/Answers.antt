use Rattle.std.proofs.Common.{arith, refl}
use Rattle.xdr_spec.proofs.Lemmas.{spells_decoded}
use Rattle.ledger_types.specs.Verdicts.{verdicts_format, verdicts_lawful}
use Rattle.command_io.specs.Inputs.{verdicts_in}
use Rattle.command_io.proofs.Decoding.{refuses_decoded}
use Rattle.command_io.proofs.decode.verdicts_in.Goals as goal

pub returns-in-Ok-clause-given : goal.returns-in-Ok-clause-given
unfolding verdicts_in
returns-in-Ok-clause-given c = rw (spells_decoded (verdicts_format) (verdicts_lawful) c.in-Ok.verdicts c.args.bytes.now c.in-Ok.ensures.found) refl

pub returns-in-Err-Bad-clause-given : goal.returns-in-Err-Bad-clause-given
unfolding verdicts_in
returns-in-Err-Bad-clause-given c = rw (refuses_decoded (verdicts_format) (verdicts_lawful) c.args.bytes.now c.in-Err-Bad.error (λ i. let fits = c.type_inv.bytes i in omega arith) (rw c.in-Err-Bad.field-0-is at c.in-Err-Bad.ensures.refused)) refl
