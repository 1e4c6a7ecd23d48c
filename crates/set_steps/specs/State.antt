-- The state of the code in the terms of the definitions (own).
use Rattle.std.specs.Prelude.{List, [], All}
use Rattle.std.specs.List.{flat_map}
use Rattle.ledger_types.specs.Key.{key_format}
use Rattle.ledger_spec.specs.LedgerMap.{LedgerMap}
use Rattle.stage_runs.specs.declared.Extension.{Extension}
use Rattle.stage_runs.specs.Runs.{Reported, RunState}
use Rattle.set_steps.specs.declared.running.ClusterRun.{ClusterRun}
use Rattle.set_steps.specs.declared.running.ClusterDone.{ClusterDone}

-- a cluster between its transactions, with the map of its own entries
abbrev pub running_in : LedgerMap → ClusterRun → RunState
running_in entries running = record { entries = entries; pending = running.pending; results = running.reports }

-- a cluster after its last transaction
abbrev pub done_in : LedgerMap → ClusterDone → RunState
done_in entries done = record { entries = entries; pending = done.pending.items; results = done.reports }

-- a set between its stages: nothing is pending
abbrev pub between : LedgerMap → List Reported → RunState
between entries reports = record { entries = entries; pending = []; results = reports }

-- the extensions that clusters left pending, in the order of the clusters
abbrev pub pending_of : List ClusterDone → List Extension
pending_of done = flat_map (λ d. d.pending.items) done

-- the reports of clusters, in their order
abbrev pub reports_of : List ClusterDone → List Reported
reports_of done = flat_map (λ d. d.reports) done

-- the keys of the pending extensions are within their XDR format
abbrev pub IsKeyed : ClusterDone → Type 0
IsKeyed done = All (λ e. key_format.fits e.key) done.pending.items
