use Rattle.std.proofs.Common.{◌∙◌, ◌++◌, List, sym, ap, subst}
use Rattle.std.specs.FinMap.{entries}
use Rattle.std.specs.List.{AllByRecursion, flat_map}
use Rattle.entry_map.specs.Entries.{Boxed, pairs_of, IsAt}
use Rattle.entry_map.specs.Rows.{rows_of, joined}
use Rattle.entry_map.proofs.Lemmas.{kept_all, kept_row, rows_all, rows_more, rows_none}
use Rattle.show_lines.specs.LedgerLines.{record_line}
use Rattle.show_lines.proofs.ledgers.push_records.Goals as goal

pub loop-row-init : goal.loop-row-init
loop-row-init c = rows_none record_line c.args.lines.now.items c.rows-row-items.result.now

pub push_row-requires : goal.push_row-requires
push_row-requires c =
    subst (λ (r : List Boxed). AllByRecursion IsAt (pairs_of r)) (sym c.deref.ensures.value)
    (kept_row c.rows-row-items.result.now c.loop-row.row-index c.row-item.result
    (kept_all c.args.entries.now (joined (rows_of c.rows-row-items.result.now)) c.rows-row-items.ensures.map c.rows-row-items.ensures.entries)
    c.loop-row-test.true c.row-item.is)

pub loop-row-preserved : goal.loop-row-preserved
loop-row-preserved c =
    rows_more record_line c.args.lines.now.items c.loop-row.lines.items c.push_row.new.lines.items c.rows-row-items.result.now c.loop-row.row-index c.row-item.result
    c.loop-row-test.true c.row-item.is c.loop-row.invariant
    (c.in_ok-push_row.ensures ∙ ap (λ (r : List Boxed). c.loop-row.lines.items ++ flat_map record_line (pairs_of r)) c.deref.ensures.value)

pub returns : goal.returns
returns c =
    rows_all record_line c.args.lines.now.items c.loop-row.lines.items c.rows-row-items.result.now c.loop-row.row-index (entries c.args.entries.now)
    c.loop-row-test.false c.loop-row.invariant c.rows-row-items.ensures.entries
