use Rattle.std.proofs.Common.{◌≡◌, ◌-◌, ◌<◌, ◌∙◌, List, length, OnOk, rules, sym, ap, subst, arith}
use Rattle.entry_map.specs.Entries.{Boxed, pair_of, pairs_of}
use Rattle.entry_map.specs.Rows.{rows_of, joined}
use Rattle.entry_map.proofs.Sorted.{Pair}
use Rattle.entry_map.proofs.Places.{Row, row_is, length_rows, around_end}
use Rattle.entry_map.proofs.rows.push_last.Goals as goal

pub returns-then-index-lt-MOST_IN_ROW-clause-ok : goal.returns-then-index-lt-MOST_IN_ROW-clause-ok
returns-then-index-lt-MOST_IN_ROW-clause-ok c =
    let vs : List Row = c.args.rows.now.items in
    let some : 0 < length vs = search rules in
    let count : c.len-row.result ≡ length vs = search rules in
    let within : c.len-row.result - 1 < length vs = omega (arith, some, count) in
    let many : c.len-index.result ≡ length c.index.result.now.items = search rules in
    subst (λ (ps : List Pair). OnOk c.insert_in.result (pairs_of (joined (rows_of c.insert_in.new.rows.items)) ≡ ps))
    (around_end (rows_of vs) (c.len-row.result - 1) c.len-index.result (pair_of c.args.stored)
    (omega (arith, length_rows vs, some, count))
    (many ∙ ap (λ (r : List Boxed). length r) (sym (row_is vs (c.len-row.result - 1) c.index.result.now within c.index.ensures))))
    c.insert_in.ensures.ok
