-- Which transactions declare a key, by the order of keys (own).
use Rattle.std.specs.Prelude.{Bool, ◌||◌, ◌&&◌, List, Option, Some, None, if◌then◌else◌}
use Rattle.std.specs.List.{list_any}
use Rattle.std.specs.Ordering.{eq_by_cmp, is_gt}
use Rattle.ledger_types.specs.KeyOrder.{key_cmp}
use Rattle.stage_runs.specs.Maps.{LedgerKey}
use Rattle.stage_runs.specs.Transactions.{Envelope, declared_by}
use Rattle.stage_runs.specs.Runs.{Cluster}

-- a key that compares as equal is in the list
abbrev pub has_equal : List LedgerKey → LedgerKey → Bool
has_equal keys key = list_any (λ k. eq_by_cmp key_cmp k key) keys

-- the transaction declares the key read-write
abbrev pub lists_write : Envelope → LedgerKey → Bool
lists_write tx key = has_equal (declared_by tx).read_write key

-- the transaction declares the key, read-only or read-write
abbrev pub lists : Envelope → LedgerKey → Bool
lists tx key = has_equal (declared_by tx).read_only key || lists_write tx key

-- some transaction of the cluster declares the key read-write
abbrev pub some_write : Cluster → LedgerKey → Bool
some_write cluster key = list_any (λ tx. lists_write tx key) cluster

-- some transaction of the cluster declares the key
abbrev pub some_list : Cluster → LedgerKey → Bool
some_list cluster key = list_any (λ tx. lists tx key) cluster

-- one of the two clusters declares the key read-write, and the other one declares it
abbrev pub meet_at_key : Cluster → Cluster → LedgerKey → Bool
meet_at_key c d key = (some_write c key && some_list d key) || (some_write d key && some_list c key)

-- the lesser of two keys, the first one if they are equal
abbrev pub lesser_of : Option LedgerKey → LedgerKey → LedgerKey
lesser_of None key = key
lesser_of (Some least) key = if is_gt (key_cmp least key) then key else least

-- the lesser of two keys, if the clusters conflict on the second one
abbrev pub lesser_met : Cluster → Cluster → Option LedgerKey → LedgerKey → Option LedgerKey
lesser_met c d best key = if meet_at_key c d key then Some (lesser_of best key) else best
