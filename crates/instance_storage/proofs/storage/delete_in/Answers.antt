use Rattle.std.proofs.Common.{Some, sym, subst, ap, ◌∙◌}
use Rattle.value_types.specs.Views.{datum, datum_pairs}
use Rattle.instance_storage.proofs.Holding.{without_held}
use Rattle.instance_storage.specs.Held.{IsHeld}
use Rattle.instance_storage.proofs.KeyLaws.{without_gap, without_there}
use Rattle.instance_storage.proofs.storage.delete_in.Goals as goal

pub returns-in-Ok-clause-deleted : goal.returns-in-Ok-clause-deleted
returns-in-Ok-clause-deleted c =
    ap Some (c.remove_at.ensures
    ∙ sym (without_there (datum c.args.key.now) (datum_pairs c.args.entries.items) c.in-Ok.index (rw c.as_slice.ensures.value at c.in-Ok.ensures.stands)))

pub returns-in-Err-clause-deleted : goal.returns-in-Err-clause-deleted
returns-in-Err-clause-deleted c =
    ap Some (sym (without_gap (datum c.args.key.now) (datum_pairs c.args.entries.items) c.in-Err.field-0 c.requires.hosted
    (rw c.as_slice.ensures.value at c.in-Err.ensures.stands)))

pub returns-in-Ok-clause-held : goal.returns-in-Ok-clause-held
returns-in-Ok-clause-held c =
    subst IsHeld
    (sym (ap Some (c.remove_at.ensures
    ∙ sym (without_there (datum c.args.key.now) (datum_pairs c.args.entries.items) c.in-Ok.index (rw c.as_slice.ensures.value at c.in-Ok.ensures.stands)))))
    (without_held (datum c.args.key.now) (datum_pairs c.args.entries.items) c.requires.hosted)
