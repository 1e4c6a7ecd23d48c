use Rattle.std.proofs.Common.{ℕ, ◌<◌, ◌^◌}
use Rattle.xdr_spec.specs.Format.{number32}
use Rattle.ledger_types.specs.Entry.{entry_format}
use Rattle.ledger_types.specs.declared.entry.LedgerEntry.{LedgerEntry}
use Rattle.entry_map.proofs.map.EntryMap.write.Goals as goal

written_fits : (n : ℕ) (e : LedgerEntry) → n < 2 ^ 32 → entry_format.fits e → entry_format.fits (record e { last_modified_ledger_seq = n })
unfolding entry_format number32
written_fits n e lt h = (lt, h.1)

pub store_entry-requires-clause-fits : goal.store_entry-requires-clause-fits
store_entry-requires-clause-fits c = written_fits c.args.n c.args.entry c.ranges.n.fits c.requires.fits
