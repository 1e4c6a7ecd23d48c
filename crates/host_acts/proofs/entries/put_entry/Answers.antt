use Rattle.value_types.specs.Views.{datum}
use Rattle.host_acts.proofs.Putting.{put_runs}
use Rattle.host_acts.proofs.entries.put_entry.Goals as goal

pub returns-clause-does : goal.returns-clause-does
returns-clause-does g c =
    put_runs c.put.result c.args.contract (datum c.args.key.now) (datum c.args.val.now) c.args.durability c.in_ok-named.named c.in_ok-entry.entry c.args.n c.args.storage.now c.put.new.storage c.args.budget.now c.put.new.budget
    c.requires.number c.in_ok-named.ensures.key c.in_ok-entry.ensures.entry c.put.ensures.does
