use Rattle.stage_runs.proofs.Lemmas.{declared_spelled}
use Rattle.tx_apply.proofs.Lemmas.{body_at}
use Rattle.auth_record.proofs.record.record_transaction.Goals as goal

pub refusal_of-requires-clause-read_only : goal.refusal_of-requires-clause-read_only
refusal_of-requires-clause-read_only g c = (declared_spelled c.args.tx.now c.requires.fits).0

pub refusal_of-requires-clause-read_write : goal.refusal_of-requires-clause-read_write
refusal_of-requires-clause-read_write g c = (declared_spelled c.args.tx.now c.requires.fits).1

pub record_operation-requires-clause-body : goal.record_operation-requires-clause-body
record_operation-requires-clause-body g c = body_at c.args.tx.now c.as_slice.result.now c.operation-item.result c.as_slice.ensures c.in-len1-up.len_at_least c.operation-item.is c.requires.fits
