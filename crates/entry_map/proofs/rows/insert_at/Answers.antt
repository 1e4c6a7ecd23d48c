use Rattle.std.proofs.Common.{◌≡◌, ◌<◌, ◌≤◌, ◌∙◌, ℕ, List, [], length, get_or, OnOk, rules, sym, ap, subst, arith}
use Rattle.std.specs.List.{AllByRecursion}
use Rattle.entry_map.specs.declared.rows.Place.{Place}
use Rattle.entry_map.specs.Entries.{Boxed, pair_of, pairs_of}
use Rattle.entry_map.specs.Rows.{rows_of, joined, moved, HasEntry}
use Rattle.entry_map.proofs.Sorted.{Pair}
use Rattle.entry_map.proofs.Places.{Row, Rows, Moved, moved_gap, around_moved, full_cut, joined_cut, length_rows, row_is, on_err_more}
use Rattle.entry_map.proofs.rows.insert_at.Goals as goal

-- the row that is cut
record Cut (rows : Rows) (at : Place) : Type 0 where
  row : at.row < length rows
  half : 128 < length (get_or rows at.row [])

is_cut : (vs : List Row) (at : Place) (v : Row) (n : ℕ) → 0 < length vs → (0 < length (rows_of vs) → at.row < length (rows_of vs)) → v ≡ get_or vs at.row v → n ≡ length v.items → 256 ≤ n → Cut (rows_of vs) at
is_cut vs at v n some within e is full =
    let lt : at.row < length (rows_of vs) = within (omega (arith, some, length_rows vs)) in
    record {
      row = lt;
      half = omega (arith, is, full, ap (λ (r : List Boxed). length r) (row_is vs at.row v (omega (arith, lt, length_rows vs)) e));
    }

moves : (rows : Rows) (at : Place) → Cut rows at → at.index ≤ length (get_or rows at.row []) → Moved rows at (moved at)
moves rows at c within = moved_gap rows at c.row c.half within

pub insert_in-requires-2-clause-full : goal.insert_in-requires-2-clause-full
insert_in-requires-2-clause-full c =
    let some : 0 < length c.args.rows.now.items = search rules in
    let many : c.len.result ≡ length c.index.result.now.items = search rules in
    let cut_is = is_cut c.args.rows.now.items c.args.at c.index.result.now c.len.result some c.requires.gap.row c.index.ensures many c.if-len-lt-MOST_IN_ROW.false in
    subst (AllByRecursion HasEntry) (sym c.in_ok-cut_row.ensures.ok) (full_cut (rows_of c.args.rows.now.items) c.args.at.row 128 c.requires.full (omega arith) cut_is.half)

pub insert_in-requires-2-clause-row : goal.insert_in-requires-2-clause-row
insert_in-requires-2-clause-row c =
    let some : 0 < length c.args.rows.now.items = search rules in
    let many : c.len.result ≡ length c.index.result.now.items = search rules in
    let cut_is = is_cut c.args.rows.now.items c.args.at c.index.result.now c.len.result some c.requires.gap.row c.index.ensures many c.if-len-lt-MOST_IN_ROW.false in
    let m = moves (rows_of c.args.rows.now.items) c.args.at cut_is c.requires.gap.index in
    omega (arith, m.row, ap (λ (p : Place). p.row) c.after_cut.ensures, ap (λ (rs : Rows). length rs) c.in_ok-cut_row.ensures.ok, length_rows c.cut_row.new.rows.items)

pub insert_in-requires-2-clause-index : goal.insert_in-requires-2-clause-index
insert_in-requires-2-clause-index c =
    let some : 0 < length c.args.rows.now.items = search rules in
    let many : c.len.result ≡ length c.index.result.now.items = search rules in
    let cut_is = is_cut c.args.rows.now.items c.args.at c.index.result.now c.len.result some c.requires.gap.row c.index.ensures many c.if-len-lt-MOST_IN_ROW.false in
    let m = moves (rows_of c.args.rows.now.items) c.args.at cut_is c.requires.gap.index in
    subst (λ (p : Place). p.index ≤ length (get_or (rows_of c.cut_row.new.rows.items) p.row [])) (sym c.after_cut.ensures)
    (subst (λ (rs : Rows). (moved c.args.at).index ≤ length (get_or rs (moved c.args.at).row [])) (sym c.in_ok-cut_row.ensures.ok) m.index)

pub returns-clause-ok : goal.returns-clause-ok
returns-clause-ok c =
    let some : 0 < length c.args.rows.now.items = search rules in
    let many : c.len.result ≡ length c.index.result.now.items = search rules in
    let cut_is = is_cut c.args.rows.now.items c.args.at c.index.result.now c.len.result some c.requires.gap.row c.index.ensures many c.if-len-lt-MOST_IN_ROW.false in
    let m = moves (rows_of c.args.rows.now.items) c.args.at cut_is c.requires.gap.index in
    subst (λ (ps : List Pair). OnOk c.insert_in-2.result (pairs_of (joined (rows_of c.insert_in-2.new.rows.items)) ≡ ps))
    (around_moved (rows_of c.args.rows.now.items) (rows_of c.cut_row.new.rows.items) c.args.at c.after_cut.result (pair_of c.args.stored) c.in_ok-cut_row.ensures.ok c.after_cut.ensures m)
    c.insert_in-2.ensures.ok

pub returns-clause-err : goal.returns-clause-err
returns-clause-err c =
    on_err_more c.insert_in-2.result (rows_of c.insert_in-2.new.rows.items ≡ rows_of c.cut_row.new.rows.items)
    (pairs_of (joined (rows_of c.insert_in-2.new.rows.items)) ≡ pairs_of (joined (rows_of c.args.rows.now.items)))
    (λ (e : rows_of c.insert_in-2.new.rows.items ≡ rows_of c.cut_row.new.rows.items).
    ap (λ (rs : Rows). pairs_of (joined rs)) (e ∙ c.in_ok-cut_row.ensures.ok) ∙ ap pairs_of (joined_cut (rows_of c.args.rows.now.items) c.args.at.row 128))
    c.insert_in-2.ensures.err
