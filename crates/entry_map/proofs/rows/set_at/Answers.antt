use Rattle.std.proofs.Common.{refl, ap}
use Rattle.std.specs.Vec.{with_item}
use Rattle.std.specs.Box.{with_value}
use Rattle.ledger_types.specs.Entry.{key_of}
use Rattle.ledger_types.specs.KeyOrder.{ranked_key}
use Rattle.ledger_spec.specs.declared.Kept.{Kept}
use Rattle.entry_map.specs.Entries.{Boxed}
use Rattle.entry_map.proofs.Places.{item_pairs, item_full}
use Rattle.entry_map.proofs.rows.set_at.Goals as goal

pub returns-clause-new : goal.returns-clause-new
returns-clause-new c =
    let held : Boxed = with_value c.index_mut-2.result.now c.keep.new.stored in
    item_pairs c.args.rows.now.items c.args.at.row c.args.at.index c.index_mut.result.now (with_item c.index_mut.result.now c.args.at.index held) held
    (ranked_key (key_of c.args.kept.entry), c.args.kept)
    c.requires.place.row c.requires.place.index c.index_mut.ensures.value refl
    (ap (λ (kept : Kept). (ranked_key (key_of kept.entry), kept)) c.keep.ensures)

pub returns-clause-full : goal.returns-clause-full
returns-clause-full c =
    let held : Boxed = with_value c.index_mut-2.result.now c.keep.new.stored in
    item_full c.args.rows.now.items c.args.at.row c.args.at.index c.index_mut.result.now (with_item c.index_mut.result.now c.args.at.index held) held
    c.requires.place.row c.requires.place.index c.index_mut.ensures.value refl c.requires.full
