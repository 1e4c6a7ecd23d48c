-- What the workers of a stage share with each other.
use denote.RattleType.{RattleType}
use denote.Ref.{NamedLft}
use denote.Param.Send.{IsSync, sendable}
use Rattle.std.proofs.Crossing.{crosses as heap_crosses}
use Rattle.ledger_types.proofs.header.Header.TheSendSync as header
use Rattle.ledger_types.proofs.verdicts.Verdicts.TheSendSync as verdicts
use Rattle.code_cache.proofs.Lemmas.{cache_sync}
use Rattle.ledger_parts.proofs.Lemmas.{map_sync}
use Rattle.ledger_apply.specs.contracts.job.ClusterWork as ClusterWork

pub work_sync : (a : NamedLft) (G : RattleType) → IsSync G → IsSync (ClusterWork.the_field a G).row
work_sync a G z = search (map_sync, cache_sync, header.the_field_sync, verdicts.the_field_sync, heap_crosses, sendable) depth 20 fits 5000
