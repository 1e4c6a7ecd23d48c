use Rattle.host_ledger.specs.Worlds.{copied}
use Rattle.call_parts.proofs.InstanceLaws.{same_is}
use Rattle.call_parts.proofs.instances.is_same.Goals as goal

pub returns : goal.returns
returns c = same_is c.same_copy.result (copied c.args.first.now) (copied c.args.copy.now) c.same_copy.ensures.0 c.same_copy.ensures.1
