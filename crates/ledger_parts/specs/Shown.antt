-- What a part shows to the transactions of its cluster (own).
use Rattle.std.specs.Prelude.{◌≡◌, Bool, true, false, List, ◌++◌, Option, Some, None, filter}
use Rattle.std.specs.List.{list_any}
use Rattle.std.specs.Str.{bytes_eq}
use Rattle.std.specs.FinMap.{insert, entries, from_entries}
use Rattle.ledger_types.specs.KeyOrder.{ranked_key}
use Rattle.stage_runs.specs.Maps.{Bytes, LedgerKey, Kept, LedgerMap, key_bytes}
use Rattle.stage_runs.specs.Transactions.{Step}
use Rattle.stage_runs.specs.Runs.{Cluster, writes_in, declares_in}

-- A cluster changes a map of its own entries. Its transactions see the map that is shown for it: that map itself, or more.
abbrev pub shown_step : (LedgerMap → LedgerMap) → Step → Step
shown_step shown step own tx = step (shown own) tx

-- the own entries, and those that are lent at the keys that pass a test
abbrev pub shown_with : (Bytes → Bool) → LedgerMap → LedgerMap → LedgerMap
shown_with reads lent own = from_entries (entries own ++ filter (λ e. reads e.0) (entries lent))

-- The test holds for each key that the cluster declares read-only and not read-write. It may hold for keys that the cluster
-- does not declare.
abbrev pub PassesRead : (Bytes → Bool) → Cluster → Type 0
PassesRead reads cluster = (q : Bytes) → declares_in cluster q ≡ true → writes_in cluster q ≡ false → reads q ≡ true

-- ---- the keys that a part reads, as a list

-- A key that is ordered by these bytes is in the list. A key within its XDR format is ordered by its XDR bytes.
abbrev pub is_read : List LedgerKey → Bytes → Bool
is_read keys bytes = list_any (λ k. bytes_eq bytes (ranked_key k)) keys

-- the own entries, and those that are lent at the keys of a list
abbrev pub shown : List LedgerKey → LedgerMap → LedgerMap → LedgerMap
shown keys lent own = shown_with (is_read keys) lent own

-- ---- moves

-- the map with what was found at a key, if there was an entry
abbrev pub with_found : LedgerMap → LedgerKey → Option Kept → LedgerMap
with_found map key (Some kept) = insert map (key_bytes key) kept
with_found map key None = map
