use Rattle.ledger_types.specs.Entry.{entry_format}
use Rattle.ledger_types.specs.Record.{record_format}
use Rattle.ledger_types.specs.declared.record.LedgerRecord.{LedgerRecord}
use Rattle.ledger_file.proofs.records.judge_record.Goals as goal

entry_fits : (item : LedgerRecord) → record_format.fits item → entry_format.fits item.entry
unfolding record_format
entry_fits item h = h.0

pub judge-requires-clause-fits : goal.judge-requires-clause-fits
judge-requires-clause-fits c = c.in_ok-key.ensures.fits (entry_fits c.args.item.now c.requires)
