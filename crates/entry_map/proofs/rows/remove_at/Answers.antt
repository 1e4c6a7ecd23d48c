use Rattle.std.proofs.Common.{◌∙◌, List, [], suc, take, drop, get_or, ap}
use Rattle.std.specs.List.{remove}
use Rattle.entry_map.specs.Entries.{Boxed, pairs_of}
use Rattle.entry_map.specs.Rows.{rows_of, joined}
use Rattle.entry_map.proofs.Sorted.{pairs_append}
use Rattle.entry_map.proofs.Places.{Rows, changed}
use Rattle.entry_map.proofs.rows.remove_at.Goals as goal

pub returns-clause-left : goal.returns-clause-left
returns-clause-left c =
    let rows : Rows = rows_of c.args.rows.now.items in
    let row : List Boxed = get_or rows c.args.at.row [] in
    ap pairs_of c.remove_if_empty.ensures.entries
    ∙ ap (λ (rs : Rows). pairs_of (joined rs)) c.remove_in-stored.ensures.rows
    ∙ changed rows c.args.at.row c.args.at.index (suc c.args.at.index) (remove row c.args.at.index) [] c.requires.place.row
    (pairs_append (take c.args.at.index row) (drop (suc c.args.at.index) row))
