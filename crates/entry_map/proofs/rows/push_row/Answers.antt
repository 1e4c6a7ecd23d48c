use Rattle.std.proofs.Common.{◌∙◌, ◌++◌, ◌∷◌, [], List, ap}
use Rattle.entry_map.specs.Entries.{Boxed, pairs_of}
use Rattle.entry_map.specs.Rows.{rows_of, joined}
use Rattle.entry_map.proofs.Places.{Row, pushed_row}
use Rattle.entry_map.proofs.rows.push_row.Goals as goal

pub returns-clause-ok : goal.returns-clause-ok
returns-clause-ok c =
    ap (λ (vs : List Row). pairs_of (joined (rows_of vs))) c.in_ok-push-2.ensures.items
    ∙ pushed_row c.args.rows.now.items c.push.new.self c.args.stored
    (c.in_ok-push.ensures.items ∙ ap (λ (r : List Boxed). r ++ c.args.stored ∷ []) c.new-row.ensures.items)
