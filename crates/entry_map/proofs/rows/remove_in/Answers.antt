use Rattle.std.proofs.Common.{◌∙◌, List, set, sym, ap, arith}
use Rattle.std.specs.List.{remove}
use Rattle.entry_map.specs.Entries.{Boxed}
use Rattle.entry_map.specs.Rows.{rows_of}
use Rattle.entry_map.proofs.Places.{row_is, rows_set, length_rows}
use Rattle.entry_map.proofs.rows.remove_in.Goals as goal

pub returns-clause-rows : goal.returns-clause-rows
returns-clause-rows c =
    rows_set c.args.rows.now.items c.args.at.row c.remove.new.self
    ∙ ap (λ (r : List Boxed). set (rows_of c.args.rows.now.items) c.args.at.row r)
    (c.remove.ensures.items
    ∙ ap (λ (r : List Boxed). remove r c.args.at.index)
    (sym (row_is c.args.rows.now.items c.args.at.row c.index_mut.result.now (omega (arith, c.requires.row, length_rows c.args.rows.now.items)) c.index_mut.ensures.value)))
