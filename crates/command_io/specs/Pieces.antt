-- The status of a set that is read in pieces (own).
use Rattle.std.specs.Prelude.{ℕ, List, Result, Ok, Err}
use Rattle.file_pour.specs.declared.error.PouredErr.{PouredErr}
use Rattle.file_pour.specs.declared.error.PouredErr.TheVariants as poured
use Rattle.tx_xdr.specs.declared.set.TxSet.{TxSet}
use Rattle.command_io.specs.declared.status.Status.{Status}
use Rattle.command_io.specs.declared.status.Status.TheVariants as status

-- the set that was read of a file of this name, or the status of the error
abbrev pub as_poured : List ℕ → Result TxSet PouredErr → Result TxSet Status
as_poured name (Ok set) = Ok set
as_poured name (Err poured.Fault) = Err (status.Fault name)
as_poured name (Err poured.TooLong) = Err (status.TooLong name)
as_poured name (Err (poured.Bad e)) = Err (status.Malformed e.at e.why)
as_poured name (Err poured.NoMemory) = Err status.NoMemory
