use Rattle.std.proofs.Common.{sym, subst}
use Rattle.std.specs.List.{AllByRecursion}
use Rattle.entry_map.specs.Rows.{HasEntry}
use Rattle.entry_map.proofs.Places.{on_err, same_row, full_row, inserted_has, inserted_pairs}
use Rattle.entry_map.proofs.rows.insert_in.Goals as goal

pub returns-in_err-insert-clause-err : goal.returns-in_err-insert-clause-err
returns-in_err-insert-clause-err c =
    on_err c.from_residual.result _
    (same_row c.args.rows.now.items c.args.at.row c.index_mut.result.now c.insert.new.self c.requires.row c.index_mut.ensures.value c.in_err-insert.ensures.items)

pub returns-in_err-insert-clause-full : goal.returns-in_err-insert-clause-full
returns-in_err-insert-clause-full c =
    subst (AllByRecursion HasEntry)
    (sym (same_row c.args.rows.now.items c.args.at.row c.index_mut.result.now c.insert.new.self c.requires.row c.index_mut.ensures.value c.in_err-insert.ensures.items))
    c.requires.full

pub returns-clause-ok : goal.returns-clause-ok
returns-clause-ok c =
    inserted_pairs c.args.rows.now.items c.args.at.row c.args.at.index c.index_mut.result.now c.insert.new.self c.args.stored c.requires.row c.index_mut.ensures.value c.in_ok-insert.ensures.items

pub returns-clause-full : goal.returns-clause-full
returns-clause-full c =
    full_row c.args.rows.now.items c.args.at.row c.insert.new.self c.requires.full
    (inserted_has c.index_mut.result.now.items c.insert.new.self.items c.args.at.index c.args.stored c.in_ok-insert.ensures.items)
