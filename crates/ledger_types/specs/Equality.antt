-- How the logic stores entries, for `is_same` (own).
use Rattle.std.specs.Coded.{Coded}
use Rattle.ledger_types.specs.declared.contract_entries.ContractDataEntry.{ContractDataEntry}
use Rattle.ledger_types.specs.declared.contract_entries.ContractCodeEntry.{ContractCodeEntry}
use Rattle.ledger_types.specs.declared.entry.LedgerEntryData.{LedgerEntryData}
use Rattle.ledger_types.specs.declared.entry.LedgerEntry.{LedgerEntry}
use Rattle.ledger_types.specs.contracts.contract_entries.ContractDataEntry as data_entry
use Rattle.ledger_types.specs.contracts.contract_entries.ContractCodeEntry as code_entry
use Rattle.ledger_types.specs.contracts.entry.LedgerEntryData as entry_data
use Rattle.ledger_types.specs.contracts.entry.LedgerEntry as entry

unfoldable pub coded_data_entry : Coded ContractDataEntry
coded_data_entry = data_entry.the_row.coded

unfoldable pub coded_code_entry : Coded ContractCodeEntry
coded_code_entry = code_entry.the_row.coded

unfoldable pub coded_entry_data : Coded LedgerEntryData
coded_entry_data = entry_data.the_row.coded

unfoldable pub coded_entry : Coded LedgerEntry
coded_entry = entry.the_row.coded
