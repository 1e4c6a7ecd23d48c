use Rattle.std.proofs.Common.{refl, ap}
use Rattle.std.specs.Vec.{with_item}
use Rattle.entry_map.specs.Entries.{pair_of}
use Rattle.entry_map.proofs.Places.{item_pairs, item_full}
use Rattle.entry_map.proofs.rows.replace_at.Goals as goal

pub returns-clause-new : goal.returns-clause-new
returns-clause-new c =
    item_pairs c.args.rows.now.items c.args.at.row c.args.at.index c.index_mut.result.now (with_item c.index_mut.result.now c.args.at.index c.replace.new.dest) c.replace.new.dest (pair_of c.args.stored)
    c.requires.place.row c.requires.place.index c.index_mut.ensures.value refl (ap pair_of c.replace.ensures.after)

pub returns-clause-full : goal.returns-clause-full
returns-clause-full c =
    item_full c.args.rows.now.items c.args.at.row c.args.at.index c.index_mut.result.now (with_item c.index_mut.result.now c.args.at.index c.replace.new.dest) c.replace.new.dest
    c.requires.place.row c.requires.place.index c.index_mut.ensures.value refl c.requires.full
