-- The keys that a cluster declares (own, after CAP-0063).
use Rattle.std.specs.Prelude.{◌≡◌, Bool, true, false, List, ◌++◌, Some, None, map, is_some, if◌then◌else◌}
use Rattle.std.specs.List.{flat_map, fold}
use Rattle.std.specs.FinMap.{get, insert, from_entries}
use Rattle.stage_runs.specs.Maps.{Bytes, LedgerKey, key_bytes}
use Rattle.stage_runs.specs.Transactions.{declared_by}
use Rattle.stage_runs.specs.Runs.{Cluster, written_keys, writes_in, declares_in}
use Rattle.stage_plan.specs.KeyMaps.{ByKey}

-- the keys that transactions of a cluster declare read-only
abbrev pub read_keys : Cluster → List LedgerKey
read_keys cluster = flat_map (λ tx. (declared_by tx).read_only) cluster

-- the XDR bytes of keys, each with whether it is declared read-write
abbrev pub with_access : Bool → List LedgerKey → List (Bytes × Bool)
with_access writes keys = map (λ key. (key_bytes key, writes)) keys

-- The keys that a cluster declares, each with whether some transaction declares it read-write.
abbrev pub declared_in : Cluster → ByKey Bool
declared_in cluster = from_entries (with_access true (written_keys cluster) ++ with_access false (read_keys cluster))

-- A key is in it exactly if some transaction declares it, with `true` exactly if some transaction declares it read-write.
abbrev pub DeclaredLaw : Type 0
DeclaredLaw = (cluster : Cluster) (q : Bytes) → get (declared_in cluster) q
    ≡ (if writes_in cluster q then Some true else if declares_in cluster q then Some false else None)

-- the map with this key, if it does not have the key yet
abbrev pub kept : Bool → ByKey Bool → LedgerKey → ByKey Bool
kept writes keys key = if is_some (get keys (key_bytes key)) then keys else insert keys (key_bytes key) writes

-- the map with those of these keys that it does not have yet
abbrev pub kept_all : Bool → ByKey Bool → List LedgerKey → ByKey Bool
kept_all writes keys more = fold (kept writes) keys more
