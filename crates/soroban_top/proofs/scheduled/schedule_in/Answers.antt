use Rattle.std.proofs.Common.{arith, refl}
use Rattle.xdr_spec.proofs.Lemmas.{spells_decoded}
use Rattle.schedule_runs.specs.Schedule.{schedule_format, schedule_lawful}
use Rattle.command_io.proofs.Lemmas.{refuses_decoded}
use Rattle.soroban_top.specs.Scheduled.{schedule_in}
use Rattle.soroban_top.proofs.scheduled.schedule_in.Goals as goal

pub returns-in-Ok-clause-given : goal.returns-in-Ok-clause-given
unfolding schedule_in
returns-in-Ok-clause-given c = rw (spells_decoded (schedule_format) (schedule_lawful) c.in-Ok.schedule c.args.bytes.now c.in-Ok.ensures.found) refl

pub returns-in-Err-Bad-clause-given : goal.returns-in-Err-Bad-clause-given
unfolding schedule_in
returns-in-Err-Bad-clause-given c = rw (refuses_decoded (schedule_format) (schedule_lawful) c.args.bytes.now c.in-Err-Bad.error (λ i. let fits = c.type_inv.bytes i in omega arith) (rw c.in-Err-Bad.field-0-is at c.in-Err-Bad.ensures.refused)) refl
