-- What the jobs of workers send to threads and share with them.
use denote.RattleType.{RattleType}
use denote.Ref.{NamedLft}
use denote.Param.Send.{IsSend, IsSync, sendable}
use Rattle.std.proofs.Crossing.{crosses as heap_crosses}
use Rattle.std.proofs.option.Option.TheSendSync as option
use Rattle.std.proofs.result.Result.TheSendSync as result
use Rattle.budget_meter.proofs.budget.Used.TheSendSync as used
use Rattle.xdr_core.proofs.error.NoMemory.TheSendSync as memory
use Rattle.value_types.proofs.items.Items.TheSendSync as items
use Rattle.tx_results.proofs.results.TransactionResultPair.TheSendSync as pair
use Rattle.ledger_types.proofs.header.Header.TheSendSync as header
use Rattle.ledger_types.proofs.verdicts.Verdicts.TheSendSync as verdicts
use Rattle.code_cache.proofs.Lemmas.{cache_sync}
use Rattle.ledger_parts.proofs.Lemmas.{envelope_sync, extension_send, kept_send, key_send, map_sync, success_send}
use Rattle.stage_runs.specs.contracts.Change as Change
use Rattle.tx_xdr.specs.contracts.transaction.Footprint as Footprint
use Rattle.ledger_apply.specs.TxDone as TxDone
use Rattle.spec_apply.specs.contracts.run.Run as Run
use Rattle.spec_apply.specs.contracts.job.Job as Job
use Rattle.spec_apply.specs.contracts.job.ListWork as ListWork

pub change_send : IsSend (Change.the_field).row
change_send = search (key_send, kept_send, option.the_field_send, sendable) depth 20 fits 5000

pub done_send : IsSend (TxDone.the_field).row
done_send = search (change_send, extension_send, success_send, pair.the_field_send, used.the_field_send, option.the_field_send, items.the_send, sendable) depth 20 fits 5000

pub footprint_send : IsSend (Footprint.the_field).row
footprint_send = search (key_send, items.the_send, sendable) depth 20 fits 5000

pub run_send : IsSend (Run.the_field).row
run_send = search (done_send, footprint_send, sendable) depth 20 fits 5000

pub job_send : (a : NamedLft) → IsSend (Job.the_field a).row
job_send a = search (envelope_sync, run_send, result.the_field_send, memory.the_send, sendable) depth 20 fits 5000

pub work_sync : (a : NamedLft) (G : RattleType) → IsSync G → IsSync (ListWork.the_field a G).row
work_sync a G z = search (map_sync, cache_sync, header.the_field_sync, verdicts.the_field_sync, heap_crosses, sendable) depth 20 fits 5000
