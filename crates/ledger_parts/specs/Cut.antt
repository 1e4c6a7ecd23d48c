-- Parts that are cut out of a map, cluster after cluster (own).
use Rattle.std.specs.Prelude.{not, List, [], ◌∷◌}
use Rattle.std.specs.FinMap.{retain_keys}
use Rattle.stage_runs.specs.Maps.{LedgerMap}
use Rattle.stage_runs.specs.Transactions.{Step}
use Rattle.stage_runs.specs.Runs.{Cluster, Stage, RunState, start, writes_in}
use Rattle.stage_runs.specs.Parts.{run_owned_all}

-- the map without the entries at the keys that a cluster declares read-write
abbrev pub without : LedgerMap → Cluster → LedgerMap
without entries cluster = retain_keys entries (λ q. not (writes_in cluster q))

-- what is left of a map after the entries of clusters were taken out, one cluster after the other
abbrev pub left_of : LedgerMap → Stage → LedgerMap
left_of entries [] = entries
left_of entries (c ∷ clusters) = left_of (without entries c) clusters

-- the entries that each cluster takes out when its turn comes
abbrev pub cut_from : LedgerMap → Stage → List LedgerMap
cut_from entries [] = []
cut_from entries (c ∷ clusters) = retain_keys entries (writes_in c) ∷ cut_from (without entries c) clusters

-- the run of each cluster on its own entries, over those that are lent
abbrev pub runs_over : Step → LedgerMap → List LedgerMap → Stage → List RunState
runs_over step lent [] clusters = []
runs_over step lent (own ∷ owns) [] = []
runs_over step lent (own ∷ owns) (c ∷ clusters) = run_owned_all step lent (start own) c ∷ runs_over step lent owns clusters
