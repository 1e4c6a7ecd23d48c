-- What the jobs of workers send to threads and share with them.
use denote.Ref.{NamedLft}
use denote.Param.Send.{IsSend, IsSync, sendable}
use Rattle.std.proofs.Crossing.{crosses as heap_crosses}
use Rattle.std.proofs.option.Option.TheSendSync as option
use Rattle.std.proofs.result.Result.TheSendSync as result
use Rattle.xdr_core.proofs.error.NoMemory.TheSendSync as memory
use Rattle.tx_results.proofs.results.TransactionResultPair.TheSendSync as pair
use Rattle.value_types.proofs.items.Items.TheSendSync as items
use Rattle.ledger_parts.proofs.Lemmas.{entry_send, envelope_sync, extension_send, key_send, key_sync, map_send, success_send}
use Rattle.ledger_types.proofs.record.TtlEntry.TheSendSync as ttl
use Rattle.change_log.specs.contracts.entry.LoggedEntry as LoggedEntry
use Rattle.change_log.specs.contracts.change.LedgerEntryChange as LedgerEntryChange
use Rattle.set_steps.specs.contracts.reports.Reports as Reports
use Rattle.set_steps.specs.contracts.running.ClusterDone as ClusterDone
use Rattle.set_steps.specs.contracts.job.Job as Job
use Rattle.tx_xdr.specs.contracts.set.Component as Component
use Rattle.tx_xdr.specs.contracts.set.Cluster as Cluster
use Rattle.tx_xdr.specs.contracts.set.Stage as Stage
use Rattle.stage_plan.specs.contracts.conflict.Conflict as Conflict
use Rattle.set_steps.specs.contracts.stages.SetStage as SetStage
use Rattle.set_steps.specs.contracts.search.StageSearch as StageSearch

pub reports_send : IsSend (Reports.the_field).row
reports_send = search (success_send, pair.the_field_send, option.the_send, heap_crosses, sendable) depth 20 fits 5000

pub done_send : IsSend (ClusterDone.the_field).row
done_send = search (reports_send, extension_send, heap_crosses, sendable) depth 20 fits 5000

pub logged_send : IsSend (LoggedEntry.the_field).row
logged_send = search (entry_send, ttl.the_field_send, sendable) depth 20 fits 5000

pub change_send : IsSend (LedgerEntryChange.the_field).row
change_send = search (logged_send, key_send, sendable) depth 20 fits 5000

pub job_send : (a : NamedLft) → IsSend (Job.the_field a).row
job_send a = search (envelope_sync, map_send, done_send, change_send, items.the_send, heap_crosses, result.the_field_send, memory.the_send, sendable) depth 20 fits 5000

-- ---- the stages that are searched for conflicts

pub component_sync : IsSync (Component.the_field).row
component_sync = search (envelope_sync, items.the_sync, option.the_field_sync, sendable) depth 20 fits 5000

pub cluster_sync : IsSync (Cluster.the_field).row
cluster_sync = search (envelope_sync, items.the_sync, sendable) depth 20 fits 5000

pub stage_sync : IsSync (Stage.the_field).row
stage_sync = search (cluster_sync, items.the_sync, sendable) depth 20 fits 5000

pub set_stage_send : (a : NamedLft) → IsSend (SetStage.the_field a).row
set_stage_send a = search (component_sync, stage_sync, sendable) depth 20 fits 5000

pub conflict_send : (a : NamedLft) → IsSend (Conflict.the_field a).row
conflict_send a = search (key_sync, sendable) depth 20 fits 5000

pub search_send : (a : NamedLft) → IsSend (StageSearch.the_field a).row
search_send a = search (set_stage_send, conflict_send, option.the_send, option.the_field_send, result.the_field_send, memory.the_send, sendable) depth 20 fits 5000
