use Rattle.std.proofs.Common.{List, Option, Result, Ok, sym, subst}
use Rattle.host_spec.specs.MapRows.{Member}
use Rattle.host_spec.specs.Hosted.{entry}
use Rattle.host_spec.specs.declared.error.HostErr.{HostErr}
use Rattle.value_types.specs.Datum.{map, members_of}
use Rattle.call_parts.specs.Entered.{IsEntered}
use Rattle.call_parts.proofs.InstanceLaws.{copy_entered}
use Rattle.call_parts.proofs.instances.entered_copy.Goals as goal

pub returns-in_ok-storage-in-Ok-clause-does : goal.returns-in_ok-storage-in-Ok-clause-does
returns-in_ok-storage-in-Ok-clause-does c key =
    copy_entered c.args.code c.in_ok-storage-in-Ok.storage c.args.entries.now (entry (map (members_of c.args.entries.now))) key
    (subst (λ (s : Option (List Member)). let q : Result (Option (List Member)) HostErr = Ok s in IsEntered q c.args.entries.now (entry (map (members_of c.args.entries.now)))) (sym c.in_ok-storage-in-Ok.ensures.ok)
    (subst (λ (ms : List Member). let q : Result (Option (List Member)) HostErr = Ok c.in-Ok.entries in IsEntered q ms (entry (map (members_of ms)))) c.in_ok-copy.ensures.ok c.in-Ok.ensures.does))
