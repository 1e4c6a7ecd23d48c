-- The header and the map of a ledger (own).
use Rattle.ledger_file.specs.declared.ledger.Ledger.{Ledger}
use Rattle.ledger_spec.specs.LedgerMap.{LedgerMap}
use Rattle.ledger_types.specs.declared.header.Header.{Header}

abbrev pub seen : Ledger → Header × LedgerMap
seen ledger = (ledger.header, ledger.entries)
