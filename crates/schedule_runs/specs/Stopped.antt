-- A run by a schedule, as the code keeps it (own).
use Rattle.std.specs.Prelude.{◌≡◌, List}
use Rattle.ledger_spec.specs.LedgerMap.{LedgerMap}
use Rattle.stage_runs.specs.Runs.{Reported, RunState}
use Rattle.set_steps.specs.State.{pending_of, reports_of}
use Rattle.set_steps.specs.declared.running.ClusterDone.{ClusterDone}

-- the entries, and what the clusters of a stage leave beside them
abbrev pub left_by : LedgerMap → List ClusterDone → RunState
left_by entries done = record { entries = entries; pending = pending_of done; results = reports_of done }

-- The run has come to these entries and reports, whatever is pending.
pub record IsAt (map : LedgerMap) (reports : List Reported) (running : RunState) : Type 0 where
  pub entries : map ≡ running.entries
  pub results : reports ≡ running.results
