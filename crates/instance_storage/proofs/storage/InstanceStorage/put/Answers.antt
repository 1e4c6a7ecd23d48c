use Rattle.std.proofs.Common.{Option, refl, sym, subst}
use Rattle.std.specs.Global.{Vec}
use Rattle.value_types.specs.Views.{datum, datum_pairs}
use Rattle.value_types.specs.declared.value.Entry.{Entry}
use Rattle.instance_storage.specs.Held.{held_in, IsHeld}
use Rattle.instance_storage.proofs.Holding.{empty_as, held_after}
use Rattle.instance_storage.proofs.storage.InstanceStorage.put.Goals as goal

pub put_in-requires-clause-hosted : goal.put_in-requires-clause-hosted
put_in-requires-clause-hosted c = empty_as (datum_pairs c.new.result.items) c.new.result.items refl c.new.ensures.items

pub returns-in-Ok-clause-held : goal.returns-in-Ok-clause-held
returns-in-Ok-clause-held c =
    subst IsHeld (sym c.storage.view_is)
    (held_after (datum c.args.entry.key) (datum c.args.entry.val) c.args.code (datum_pairs c.new.result.items) c.in-Ok.storage
    (empty_as (datum_pairs c.new.result.items) c.new.result.items refl c.new.ensures.items)
    c.requires.key c.requires.val c.in-Ok.ensures.0 c.in-Ok.ensures.1)

pub returns-in-Ok-put_in-clause-held : goal.returns-in-Ok-put_in-clause-held
returns-in-Ok-put_in-clause-held c =
    subst IsHeld (sym c.storage-in-Ok-put_in.view_is)
    (held_after (datum c.args.entry.key) (datum c.args.entry.val) c.args.code (datum_pairs c.in-Some.entries.items) c.in-Ok-put_in.storage
    (subst (λ (o : Option (Vec Entry)). IsHeld (held_in o)) (sym c.in-Some.ensures.value) (subst IsHeld (sym c.self.view_is) c.requires.held))
    c.requires.key c.requires.val c.in-Ok-put_in.ensures.0 c.in-Ok-put_in.ensures.1)
