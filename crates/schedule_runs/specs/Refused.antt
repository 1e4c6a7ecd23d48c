-- Why a set is not run by a schedule (own).
use Rattle.std.specs.Prelude.{◌≡◌, ℕ, List, Some}
use Rattle.std.specs.List.{AllByRecursion}
use Rattle.ledger_spec.specs.LedgerMap.{key_bytes}
use Rattle.ledger_types.specs.Key.{key_format}
use Rattle.stage_runs.specs.Runs.{Stage, HasNoConflict}
use Rattle.stage_runs.specs.Conflicts.{IsFirstConflict}
use Rattle.ledger_file.specs.declared.ledger.Ledger.{Ledger}
use Rattle.schedule_runs.specs.Plans.{first_incomplete}
use Rattle.schedule_runs.specs.declared.error.SchedErr.{SchedErr}
use Rattle.schedule_runs.specs.declared.error.SchedErr.TheVariants.{Conflict, Incomplete, NoMemory}

-- This is the least conflict of the set, or the set has none and this is the least index at which the schedule is not complete.
-- The ledger is as before. Memory may run out in place of both.
abbrev pub IsRefused : List Stage → List (List ℕ) → Ledger → SchedErr → Type 0
IsRefused stages orders before (Conflict stage found ledger) =
    IsFirstConflict stages stage found.a found.b (key_bytes found.key.now) × (ledger ≡ before) × key_format.fits found.key.now
IsRefused stages orders before (Incomplete stage ledger) =
    AllByRecursion HasNoConflict stages × (first_incomplete stages orders ≡ Some stage) × (ledger ≡ before)
IsRefused stages orders before NoMemory = Unit {0}
