use Rattle.std.proofs.Common.{List, Option, ap, ◌∙◌}
use Rattle.host_spec.specs.MapRows.{Member}
use Rattle.call_spec.specs.Keys.{instance_entry}
use Rattle.host_ledger.specs.Worlds.{copied}
use Rattle.call_parts.proofs.Stepping.{instance_written}
use Rattle.call_parts.proofs.instances.write_instance.Goals as goal

pub returns-clause-does : goal.returns-clause-does
returns-clause-does g c =
    instance_written c.put.result c.args.contract (copied c.args.copy.now) c.instance_key-key.result c.instance_entry-entry.result c.args.n c.args.storage.now c.put.new.storage c.args.budget.now c.put.new.budget c.instance_key-key.ensures.key
    (c.instance_entry-entry.ensures.entry ∙ ap (λ (x : Option (List Member)). instance_entry c.args.n c.args.contract (record { code = c.args.copy.now.code; storage = x })) c.in_ok-entries.ensures.ok) c.requires.number c.put.ensures.does
