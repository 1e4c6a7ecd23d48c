-- Why a set is not applied (own).
use Rattle.std.specs.Prelude.{◌≡◌, List}
use Rattle.ledger_spec.specs.LedgerMap.{key_bytes}
use Rattle.ledger_types.specs.Key.{key_format}
use Rattle.stage_runs.specs.Runs.{Stage}
use Rattle.stage_runs.specs.Conflicts.{IsFirstConflict}
use Rattle.ledger_file.specs.declared.ledger.Ledger.{Ledger}
use Rattle.ledger_apply.specs.declared.error.ApplyErr.{ApplyErr}
use Rattle.ledger_apply.specs.declared.error.ApplyErr.TheVariants.{Conflict, NoMemory}

-- this is the least conflict of the set, the ledger is as before, and the key is within its XDR format, unless memory ran out
abbrev pub IsConflictUnlessMemory : List Stage → Ledger → ApplyErr → Type 0
IsConflictUnlessMemory stages before (Conflict stage found ledger) =
    IsFirstConflict stages stage found.a found.b (key_bytes found.key.now) × (ledger ≡ before) × key_format.fits found.key.now
IsConflictUnlessMemory stages before NoMemory = Unit {0}
