use Rattle.std.proofs.Common.{◌∙◌, get_or, [], refl, ap}
use Rattle.std.specs.Vec.{with_item}
use Rattle.std.specs.Box.{with_value}
use Rattle.ledger_types.specs.Entry.{key_of}
use Rattle.ledger_types.specs.KeyOrder.{ranked_key}
use Rattle.ledger_spec.specs.declared.Kept.{Kept}
use Rattle.entry_map.specs.declared.stored.StoredEntry.{StoredEntry}
use Rattle.entry_map.specs.Entries.{Boxed, kept_of, lasting, own_key}
use Rattle.entry_map.specs.Rows.{rows_of}
use Rattle.entry_map.proofs.Places.{item_pairs, item_full, item_is}
use Rattle.entry_map.proofs.rows.raise_at.Goals as goal

pub returns-clause-new : goal.returns-clause-new
returns-clause-new c d =
    let old : Boxed = get_or (get_or (rows_of c.args.rows.now.items) c.args.at.row []) c.args.at.index d in
    let held : Boxed = with_value c.index_mut-2.result.now c.raise.new.stored in
    item_pairs c.args.rows.now.items c.args.at.row c.args.at.index c.index_mut.result.now (with_item c.index_mut.result.now c.args.at.index held) held
    (own_key old, lasting (kept_of old) c.args.live_until)
    c.requires.place.row c.requires.place.index c.index_mut.ensures.value refl
    (ap (λ (kept : Kept). (ranked_key (key_of kept.entry), kept))
    (c.raise.ensures
    ∙ ap (λ (s : StoredEntry). lasting s.kept c.args.live_until) c.deref_mut.ensures.value
    ∙ ap (λ (b : Boxed). lasting (kept_of b) c.args.live_until)
    (item_is c.args.rows.now.items c.args.at.row c.args.at.index c.index_mut.result.now c.index_mut-2.result.now d
    c.requires.place.row c.requires.place.index c.index_mut.ensures.value c.index_mut-2.ensures.value)))

pub returns-clause-full : goal.returns-clause-full
returns-clause-full c =
    let held : Boxed = with_value c.index_mut-2.result.now c.raise.new.stored in
    item_full c.args.rows.now.items c.args.at.row c.args.at.index c.index_mut.result.now (with_item c.index_mut.result.now c.args.at.index held) held
    c.requires.place.row c.requires.place.index c.index_mut.ensures.value refl c.requires.full
