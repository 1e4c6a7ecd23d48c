use Rattle.std.proofs.Common.{◌∙◌, ◌++◌, take, sym, ap, subst}
use Rattle.std.specs.List.{flat_map}
use Rattle.xdr_core.specs.Writes.{StartsWith}
use Rattle.ledger_types.specs.Record.{record_format}
use Rattle.ledger_spec.specs.LedgerFile.{record_of}
use Rattle.entry_map.specs.declared.stored.StoredEntry.{StoredEntry}
use Rattle.entry_map.specs.Entries.{pairs_of}
use Rattle.entry_map.proofs.Lemmas.{kept_item, kept_own, row_all, row_more, row_none}
use Rattle.ledger_file.specs.Records.{record_bytes, IsKept}
use Rattle.ledger_file.proofs.Starts.{starts_through, on_err}
use Rattle.ledger_file.proofs.writing.write_row.Goals as goal

pub loop-stored-init : goal.loop-stored-init
loop-stored-init c = row_none record_bytes c.args.out.now c.args.row.now

pub write_record-requires : goal.write_record-requires
write_record-requires c =
    subst (λ (s : StoredEntry). IsKept s.kept) (sym c.deref.ensures)
    (kept_own c.stored-item.result (kept_item c.args.row.now c.loop-stored.stored-index c.stored-item.result c.requires c.loop-stored-test.true c.stored-item.is))

pub loop-stored-preserved : goal.loop-stored-preserved
loop-stored-preserved c =
    row_more record_bytes c.args.out.now c.loop-stored.out c.write_record.new.out c.args.row.now c.loop-stored.stored-index c.stored-item.result c.requires c.loop-stored-test.true c.stored-item.is
    c.loop-stored.invariant (c.in_ok-write_record.ensures.ok ∙ ap (λ (s : StoredEntry). c.loop-stored.out ++ record_format.spell (record_of s.kept)) c.deref.ensures)

pub returns-in_err-write_record-clause-err : goal.returns-in_err-write_record-clause-err
returns-in_err-write_record-clause-err c =
    let starts = subst (StartsWith c.write_record.new.out) c.loop-stored.invariant c.in_err-write_record.ensures.err in
    on_err c.from_residual.result _
    (starts_through c.write_record.new.out c.args.out.now (flat_map record_bytes (pairs_of (take c.loop-stored.stored-index c.args.row.now))) starts)

pub returns-clause-ok : goal.returns-clause-ok
returns-clause-ok c = row_all record_bytes c.args.out.now c.loop-stored.out c.args.row.now c.loop-stored.stored-index c.loop-stored-test.false c.loop-stored.invariant
