use Rattle.std.proofs.Common.{◌∙◌, ◌++◌, List, take, sym, ap, subst}
use Rattle.std.specs.FinMap.{entries}
use Rattle.std.specs.List.{AllByRecursion, flat_map}
use Rattle.xdr_core.specs.Writes.{StartsWith}
use Rattle.entry_map.specs.Entries.{Boxed, pairs_of, IsAt}
use Rattle.entry_map.specs.Rows.{rows_of, joined}
use Rattle.entry_map.proofs.Lemmas.{kept_all, kept_row, rows_all, rows_more, rows_none}
use Rattle.ledger_file.specs.Records.{record_bytes}
use Rattle.ledger_file.proofs.Starts.{starts_through, on_err}
use Rattle.ledger_file.proofs.writing.write_records.Goals as goal

pub loop-row-init : goal.loop-row-init
loop-row-init c = rows_none record_bytes c.args.out.now c.rows-row-items.result.now

pub write_row-requires : goal.write_row-requires
write_row-requires c =
    subst (λ (r : List Boxed). AllByRecursion IsAt (pairs_of r)) (sym c.deref.ensures.value)
    (kept_row c.rows-row-items.result.now c.loop-row.row-index c.row-item.result
    (kept_all c.args.entries.now (joined (rows_of c.rows-row-items.result.now)) c.rows-row-items.ensures.map c.rows-row-items.ensures.entries)
    c.loop-row-test.true c.row-item.is)

pub returns-in_err-write_row-clause-err : goal.returns-in_err-write_row-clause-err
returns-in_err-write_row-clause-err c =
    let starts = subst (StartsWith c.write_row.new.out) c.loop-row.invariant c.in_err-write_row.ensures.err in
    on_err c.from_residual.result _
    (starts_through c.write_row.new.out c.args.out.now (flat_map record_bytes (pairs_of (joined (rows_of (take c.loop-row.row-index c.rows-row-items.result.now))))) starts)

pub loop-row-preserved : goal.loop-row-preserved
loop-row-preserved c =
    rows_more record_bytes c.args.out.now c.loop-row.out c.write_row.new.out c.rows-row-items.result.now c.loop-row.row-index c.row-item.result c.loop-row-test.true c.row-item.is
    c.loop-row.invariant (c.in_ok-write_row.ensures.ok ∙ ap (λ (r : List Boxed). c.loop-row.out ++ flat_map record_bytes (pairs_of r)) c.deref.ensures.value)

pub returns-clause-ok : goal.returns-clause-ok
returns-clause-ok c =
    rows_all record_bytes c.args.out.now c.loop-row.out c.rows-row-items.result.now c.loop-row.row-index (entries c.args.entries.now) c.loop-row-test.false c.loop-row.invariant
    c.rows-row-items.ensures.entries
