-- The file and the line of `migrate` (own).
use Rattle.std.specs.Prelude.{ℕ, List, ◌++◌, codes, decimal}
use Rattle.std.specs.FinMap.{len}
use Rattle.ledger_spec.specs.LedgerFile.{ledger_bytes}
use Rattle.ledger_spec.specs.LedgerMap.{LedgerMap}
use Rattle.ledger_types.specs.declared.header.Header.{Header}
use Rattle.command_io.specs.Product.{File, Made, stored_and_said}

-- the line after a ledger with this many entries was written
abbrev pub migrated_line : ℕ → List ℕ
migrated_line records = codes "migrated " ++ decimal records ++ codes " records\n"

-- the file of a ledger is stored, and the number of its entries is printed
unfoldable pub migrated : File → Header × LedgerMap → Made
migrated file ledger = stored_and_said file (ledger_bytes ledger.0 ledger.1) (migrated_line (len ledger.1))
