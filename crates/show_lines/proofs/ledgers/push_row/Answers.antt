use Rattle.std.proofs.Common.{◌∙◌, ◌++◌, ap}
use Rattle.ledger_types.specs.Entry.{key_of}
use Rattle.ledger_spec.specs.LedgerMap.{key_bytes}
use Rattle.entry_map.specs.declared.stored.StoredEntry.{StoredEntry}
use Rattle.entry_map.proofs.Lemmas.{row_all, row_more, row_none}
use Rattle.show_lines.specs.LedgerLines.{record_line}
use Rattle.show_lines.proofs.ledgers.push_row.Goals as goal

pub loop-stored-init : goal.loop-stored-init
loop-stored-init c = row_none record_line c.args.lines.now.items c.args.row.now

pub loop-stored-preserved : goal.loop-stored-preserved
loop-stored-preserved c =
    row_more record_line c.args.lines.now.items c.loop-stored.lines.items c.push_record.new.lines.items c.args.row.now c.loop-stored.stored-index c.stored-item.result
    c.requires c.loop-stored-test.true c.stored-item.is c.loop-stored.invariant
    (c.in_ok-push_record.ensures ∙ ap (λ (s : StoredEntry). c.loop-stored.lines.items ++ record_line (key_bytes (key_of s.kept.entry), s.kept)) c.deref.ensures)

pub returns : goal.returns
returns c = row_all record_line c.args.lines.now.items c.loop-stored.lines.items c.args.row.now c.loop-stored.stored-index c.loop-stored-test.false c.loop-stored.invariant
