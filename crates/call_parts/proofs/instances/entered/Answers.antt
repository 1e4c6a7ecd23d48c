use Rattle.std.proofs.Common.{Some, refl}
use Rattle.call_parts.proofs.InstanceLaws.{map_entered}
use Rattle.call_parts.proofs.instances.entered.Goals as goal

pub returns-in-Ok-clause-does : goal.returns-in-Ok-clause-does
returns-in-Ok-clause-does c = map_entered tt c.take_entries.result c.args.entries (c.take_entries.ensures (Some c.args.entries) refl) c.in-Ok.ensures.does c.requires.shallow
