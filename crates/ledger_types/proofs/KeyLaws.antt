-- If an entry has a spelling, its key has one (own).
use Rattle.ledger_types.specs.ContractEntries.{data_format, code_format}
use Rattle.ledger_types.specs.Key.{key_format}
use Rattle.ledger_types.specs.Entry.{body_format, entry_format, key_of, key_of_data}
use Rattle.ledger_types.specs.declared.entry.LedgerEntryData.{LedgerEntryData}
use Rattle.ledger_types.specs.declared.entry.LedgerEntryData.TheVariants as bodies
use Rattle.ledger_types.specs.declared.entry.LedgerEntry.{LedgerEntry}

key_of_data_fits : (d : LedgerEntryData) → body_format.fits d → key_format.fits (key_of_data d)
unfolding key_format body_format data_format code_format
key_of_data_fits (bodies.ContractData e) h = (h.0, (h.1.0, h.1.1.0))
key_of_data_fits (bodies.ContractCode e) h = h.0

pub key_of_fits : (e : LedgerEntry) → entry_format.fits e → key_format.fits (key_of e)
unfolding entry_format
key_of_fits e h = key_of_data_fits e.data h.1.0
