use Rattle.std.proofs.Common.{◌<◌, ◌∙◌, ℕ, List, length, sym, subst, arith}
use Rattle.ledger_types.specs.KeyOrder.{ranked_key}
use Rattle.entry_map.specs.Entries.{Boxed, pairs_of, AreSorted}
use Rattle.entry_map.specs.Rows.{rows_of, IsGapIn}
use Rattle.entry_map.proofs.Places.{Rows, row_is, length_rows}
use Rattle.entry_map.proofs.Search.{row_sorted, placed_gap}
use Rattle.entry_map.proofs.rows.place_of.Goals as goal

pub index_in-requires : goal.index_in-requires
index_in-requires c =
    let rows : Rows = rows_of c.args.rows.now in
    let lt : c.row_of-row.result < length c.args.rows.now = omega (arith, c.if-row-rows.false) in
    subst (λ (r : List Boxed). AreSorted (pairs_of r)) (row_is c.args.rows.now c.row_of-row.result c.index-rows-row.result lt c.index-rows-row.is ∙ sym c.deref.ensures.value)
    (row_sorted rows c.row_of-row.result (omega (arith, lt, length_rows c.args.rows.now)) c.requires.sorted)

pub returns-in-Err : goal.returns-in-Err
returns-in-Err c =
    let q : List ℕ = ranked_key c.args.key.now in
    let rows : Rows = rows_of c.args.rows.now in
    let lt : c.row_of-row.result < length c.args.rows.now = omega (arith, c.if-row-rows.false) in
    placed_gap q rows c.row_of-row.result c.in-Err.index (omega (arith, lt, length_rows c.args.rows.now)) c.row_of-row.ensures.below c.row_of-row.ensures.above
    (subst (λ (r : List Boxed). IsGapIn q r c.in-Err.index)
    (sym (row_is c.args.rows.now c.row_of-row.result c.index-rows-row.result lt c.index-rows-row.is ∙ sym c.deref.ensures.value)) c.in-Err.ensures)
