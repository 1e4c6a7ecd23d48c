-- The file and the line of `play` (own).
use Rattle.std.specs.Prelude.{ℕ, Bool, true, false, List, ◌++◌, length, Option, Result, Ok, Err, codes, decimal}
use Rattle.change_log.specs.Play.{played}
use Rattle.change_log.specs.declared.error.ListIndex.{ListIndex}
use Rattle.change_log.specs.declared.log.Log.{Log}
use Rattle.edge_io.specs.Contents.{FileMap}
use Rattle.ledger_spec.specs.LedgerFile.{ledger_bytes}
use Rattle.ledger_spec.specs.LedgerMap.{LedgerMap}
use Rattle.ledger_types.specs.declared.header.Header.{Header}
use Rattle.command_io.specs.Inputs.{ledger_at, any_ledger_at}
use Rattle.command_io.specs.Product.{stored_and_said, File, Made}
use Rattle.command_io.specs.declared.status.Status.{Status}
use Rattle.command_io.specs.declared.status.Status.TheVariants as status

-- The ledger in the file of this name. Another ledger has to be able to follow it if the log is played forwards.
abbrev pub played_ledger_at : FileMap → Bool → List ℕ → Result (Header × LedgerMap) Status
played_ledger_at m false name = ledger_at m name
played_ledger_at m true name = any_ledger_at m name

-- the line after a log with this many stages was played
abbrev pub played_line : ℕ → List ℕ
played_line stages = codes "played " ++ decimal stages ++ codes " stages\n"

-- the file of a ledger is stored, and the number of stages is printed
abbrev pub played_to : File → ℕ → Result (Header × LedgerMap) (Option ListIndex) → Result Made Status
played_to file stages (Ok ledger) = Ok (stored_and_said file (ledger_bytes ledger.0 ledger.1) (played_line stages))
played_to file stages (Err at) = Err (status.Unfit at)

-- the ledger that the log leads to is stored, if the log fits the ledger
unfoldable pub replayed : File → Bool → Log → Header × LedgerMap → Result Made Status
replayed file back log ledger = played_to file (length log.stages) (played back log ledger.0 ledger.1)
