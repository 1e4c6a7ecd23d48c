use Rattle.std.proofs.Common.{◌≡◌, ◌<◌, ◌∙◌, List, length, rules, sym, ap, subst, arith}
use Rattle.std.specs.List.{AllByRecursion}
use Rattle.entry_map.specs.Entries.{Boxed}
use Rattle.entry_map.specs.Rows.{rows_of, joined, HasEntry}
use Rattle.entry_map.proofs.Places.{Row, row_is, rows_remove, length_rows, joined_remove, full_back}
use Rattle.entry_map.proofs.rows.remove_if_empty.Goals as goal

pub returns-then-is_empty-clause-entries : goal.returns-then-is_empty-clause-entries
returns-then-is_empty-clause-entries c =
    let vs : List Row = c.args.rows.now.items in
    let none : length c.index.result.now.items ≡ 0 = search rules in
    ap (λ (ws : List Row). joined (rows_of ws)) c.remove-empty.ensures.items
    ∙ ap joined (rows_remove vs c.args.row)
    ∙ joined_remove (rows_of vs) c.args.row (omega (arith, c.requires.row, length_rows vs))
    (ap (λ (r : List Boxed). length r) (row_is vs c.args.row c.index.result.now c.requires.row c.index.ensures) ∙ none)

pub returns-then-is_empty-clause-full : goal.returns-then-is_empty-clause-full
returns-then-is_empty-clause-full c =
    subst (AllByRecursion HasEntry) (sym (ap rows_of c.remove-empty.ensures.items ∙ rows_remove c.args.rows.now.items c.args.row)) c.requires.full

pub returns-else-is_empty-clause-full : goal.returns-else-is_empty-clause-full
returns-else-is_empty-clause-full c =
    let vs : List Row = c.args.rows.now.items in
    let some : 0 < length c.index.result.now.items = search rules in
    full_back (rows_of vs) c.args.row c.requires.full
    (omega (arith, ap (λ (r : List Boxed). length r) (row_is vs c.args.row c.index.result.now c.requires.row c.index.ensures), some))
    (omega (arith, c.requires.row, length_rows vs))
