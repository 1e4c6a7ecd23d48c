use Rattle.std.proofs.Common.{sym, ap, ◌∙◌}
use Rattle.std.proofs.lemmas.Result.{err_from_is_err_and}
use Rattle.ledger_spec.specs.LedgerFile.{map_of}
use Rattle.ledger_file.proofs.Judging.{header_fits, records_fit, refused_header, refused_records, whole_ledger, not_refused}
use Rattle.ledger_file.proofs.reading.read_ledger.Goals as goal

pub returns-in_err-header-clause-refused : goal.returns-in_err-header-clause-refused
returns-in_err-header-clause-refused c =
    let p = err_from_is_err_and c.from_residual.result c.from_residual.ensures.1 in
    rw (p.1, p.2) (c.in_err-header.ensures.refused c.args.follows)

pub returns-in-Some-clause-refused : goal.returns-in-Some-clause-refused
returns-in-Some-clause-refused c =
    refused_header c.args.follows c.args.bytes.now c.in_ok-header.field-0 c.in-Some.refusal c.in_ok-header.ensures.file (sym c.in-Some.ensures)

pub map_of_records-requires : goal.map_of_records-requires
map_of_records-requires c = rw c.into_vec.ensures (records_fit c.in_ok-header.field-0 c.in_ok-header.ensures.fits)

pub returns-in_err-entries-clause-refused : goal.returns-in_err-entries-clause-refused
returns-in_err-entries-clause-refused c =
    let p = err_from_is_err_and c.from_residual-in_err-entries.result c.from_residual-in_err-entries.ensures.1 in
    rw (p.1, p.2) (refused_records c.args.follows c.args.bytes.now c.in_ok-header.field-0 _ c.in_ok-header.ensures.file (sym c.in_default.ensures)
    (rw c.into_vec.ensures at c.in_err-entries.ensures.err))

pub returns-clause-ledger : goal.returns-clause-ledger
returns-clause-ledger c =
    whole_ledger c.args.follows c.args.bytes.now c.in_ok-header.field-0 c.in_ok-entries.entries c.in_ok-header.ensures.file (sym c.in_default.ensures)
    (rw c.into_vec.ensures at c.in_ok-entries.ensures.good) (c.in_ok-entries.ensures.ok ∙ ap map_of c.into_vec.ensures)

pub returns-clause-header : goal.returns-clause-header
returns-clause-header c = header_fits c.in_ok-header.field-0 c.in_ok-header.ensures.fits

pub returns-clause-settings : goal.returns-clause-settings
returns-clause-settings c = (not_refused c.args.follows c.in_ok-header.field-0.header (sym c.in_default.ensures)).1

pub returns-clause-next : goal.returns-clause-next
returns-clause-next c = (not_refused c.args.follows c.in_ok-header.field-0.header (sym c.in_default.ensures)).2
