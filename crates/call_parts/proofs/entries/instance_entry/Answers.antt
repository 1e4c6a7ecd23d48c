use Rattle.call_parts.proofs.EntryLaws.{instance_same}
use Rattle.call_parts.proofs.entries.instance_entry.Goals as goal

pub returns-clause-entry : goal.returns-clause-entry
returns-clause-entry c = instance_same c.args.n c.args.contract c.args.code c.args.storage
