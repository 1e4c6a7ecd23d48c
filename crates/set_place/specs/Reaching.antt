-- The run to a place, as the code keeps it (own).
use Rattle.std.specs.Prelude.{List, ◌++◌}
use Rattle.ledger_spec.specs.LedgerMap.{LedgerMap, key_bytes}
use Rattle.ledger_types.specs.Key.{key_format}
use Rattle.stage_runs.specs.Conflicts.{IsFirstConflict}
use Rattle.stage_runs.specs.Runs.{Reported, RunState, Stage}
use Rattle.set_steps.specs.State.{pending_of, reports_of}
use Rattle.set_steps.specs.declared.running.ClusterDone.{ClusterDone}
use Rattle.set_place.specs.Places.{Met, met_on}
use Rattle.set_place.specs.declared.error.PlaceErr.{PlaceErr}
use Rattle.set_place.specs.declared.error.PlaceErr.TheVariants.{Conflict, NoMemory}
use Rattle.set_place.specs.declared.set.Reached.{Reached}

-- a stage between two of its clusters: the entries, what was reported before the stage, and what the clusters left that ran
abbrev pub in_stage : LedgerMap → List Reported → List ClusterDone → RunState
in_stage entries reports done = record { entries = entries; pending = pending_of done; results = reports ++ reports_of done }

-- the transaction that was reached, and what it meets
abbrev pub met_of : Reached → Met
met_of reached = met_on reached.ledger.entries reached.envelope.now

-- this is the least conflict of the set, and the key is within its XDR format, unless memory ran out
abbrev pub IsRefused : List Stage → PlaceErr → Type 0
IsRefused stages (Conflict c) =
    IsFirstConflict stages c.stage c.found.a c.found.b (key_bytes c.found.key.now) × key_format.fits c.found.key.now
IsRefused stages NoMemory = Unit {0}
