-- Why a ledger was not read (own).
use Rattle.std.specs.Prelude.{◌≡◌, Result, Err}
use Rattle.ledger_spec.specs.declared.LedgerRefusal.{LedgerRefusal}
use Rattle.ledger_file.specs.declared.error.LedgerErr.{LedgerErr}
use Rattle.ledger_file.specs.declared.error.LedgerErr.TheVariants.{Refused, NoMemory}

-- the file is rejected for this reason, unless memory ran out
abbrev pub IsRefusalUnlessMemory : {L : Type 0} → Result L LedgerRefusal → LedgerErr → Type 0
IsRefusalUnlessMemory found (Refused r) = found ≡ Err r
IsRefusalUnlessMemory found NoMemory = Unit {0}
