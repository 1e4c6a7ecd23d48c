-- The conflicts at each key of a stage, found cluster by cluster (own).
use Rattle.std.specs.Prelude.{◌≡◌, ◌<◌, ◌==◌, ◌&&◌, ◌||◌, ℕ, Bool, true, false, not, List, Option, Some, None, is_some, nat_lt}
use Rattle.std.specs.Prelude.{slice_get, if◌then◌else◌}
use Rattle.std.specs.List.{fold}
use Rattle.std.specs.FinMap.{get, insert}
use Rattle.stage_runs.specs.Maps.{Bytes, LedgerKey, key_bytes}
use Rattle.stage_runs.specs.Runs.{Cluster, Stage, written_keys, writes_in, declares_in, HasNoConflict}
use Rattle.stage_runs.specs.Conflicts.{meet_at, IsLeastConflict}
use Rattle.stage_plan.specs.KeyMaps.{ByKey}
use Rattle.stage_plan.specs.DeclaredKeys.{read_keys}
use Rattle.stage_plan.specs.declared.meeting.Meeting.{Meeting}

-- ---- what is known of a key

-- There is nothing to add to what is known: the key has a conflict already, or the cluster at this index was the first to declare
-- the key, or neither cluster declares it read-write.
abbrev pub adds_nothing : ℕ → Bool → Meeting → Bool
adds_nothing number writes m = (is_some m.second || m.first == number) || not (m.writes || writes)

-- what is known of a key after the cluster at this index declares it
abbrev pub joined : ℕ → Bool → Option Meeting → Meeting
joined number writes None = record { first = number; writes = writes; second = None }
joined number writes (Some m) = if adds_nothing number writes m then m else record m { second = Some number }

-- the map after the cluster at this index declares a key
abbrev pub noted : ℕ → Bool → ByKey Meeting → LedgerKey → ByKey Meeting
noted number writes met key = insert met (key_bytes key) (joined number writes (get met (key_bytes key)))

-- the map after the cluster at this index declares these keys
abbrev pub noted_all : ℕ → Bool → ByKey Meeting → List LedgerKey → ByKey Meeting
noted_all number writes met keys = fold (noted number writes) met keys

-- the map after a cluster: the keys that it declares read-write come first
abbrev pub noted_cluster : ℕ → ByKey Meeting → Cluster → ByKey Meeting
noted_cluster number met cluster = noted_all number false (noted_all number true met (written_keys cluster)) (read_keys cluster)

-- ---- what that means

-- The cluster at index b is the first one after another that conflicts with it on the key.
pub record IsSecond (stage : Stage) (n first : ℕ) (cluster : Cluster) (q : Bytes) (b : ℕ) : Type 0 where
  pub after : first < b
  pub within : b < n
  pub other : Cluster
  pub at : slice_get stage b ≡ Some other
  pub meet : meet_at cluster other q ≡ true
  pub before : (j : ℕ) (d : Cluster) → first < j → j < b → slice_get stage j ≡ Some d → meet_at cluster d q ≡ false

-- the first later cluster before index n that conflicts with a cluster on the key, or `None` if there is none
abbrev pub HasSecond : Stage → ℕ → ℕ → Cluster → Bytes → Option ℕ → Type 0
HasSecond stage n first cluster q None =
    (j : ℕ) (d : Cluster) → first < j → j < n → slice_get stage j ≡ Some d → meet_at cluster d q ≡ false
HasSecond stage n first cluster q (Some b) = IsSecond stage n first cluster q b

-- Of the clusters before index n, these are the first one that declares the key, and the first one that conflicts with that.
pub record IsMeeting (stage : Stage) (n : ℕ) (q : Bytes) (m : Meeting) : Type 0 where
  pub within : m.first < n
  pub cluster : Cluster
  pub at : slice_get stage m.first ≡ Some cluster
  pub declares : declares_in cluster q ≡ true
  pub writes : m.writes ≡ writes_in cluster q
  pub earlier : (i : ℕ) (c : Cluster) → i < m.first → slice_get stage i ≡ Some c → declares_in c q ≡ false
  pub second : HasSecond stage n m.first cluster q m.second

-- what is known of a key from the clusters before index n; `None` if none of them declares it
abbrev pub IsKnown : Stage → ℕ → Bytes → Option Meeting → Type 0
IsKnown stage n q None = (i : ℕ) (c : Cluster) → i < n → slice_get stage i ≡ Some c → declares_in c q ≡ false
IsKnown stage n q (Some m) = IsMeeting stage n q m

-- the map has what is known of each key from the clusters before index n
abbrev pub AreKnown : Stage → ℕ → ByKey Meeting → Type 0
AreKnown stage n met = (q : Bytes) → IsKnown stage n q (get met q)

-- ---- the least conflict of all keys

-- a conflict by the indices of its clusters and the bytes of its key
pub record Spot : Type 0 where
  pub a : ℕ
  pub b : ℕ
  pub key : Bytes

-- the indices of one conflict are below those of another
abbrev pub is_before : Spot → Spot → Bool
is_before s t = nat_lt s.a t.a || (s.a == t.a && nat_lt s.b t.b)

-- the conflict with the lower indices, the first one if they are the same
abbrev pub lesser_spot : Option Spot → Spot → Spot
lesser_spot None spot = spot
lesser_spot (Some least) spot = if is_before spot least then spot else least

-- the same, if there is a second conflict
abbrev pub lesser_with : Option Spot → Bytes → ℕ → Option ℕ → Option Spot
lesser_with best key first None = best
lesser_with best key first (Some second) = Some (lesser_spot best (record { a = first; b = second; key = key }))

-- the same with the conflict at a key, if there is one
abbrev pub lesser_at : Option Spot → Bytes × Meeting → Option Spot
lesser_at best e = lesser_with best e.0 e.1.first e.1.second

-- the least conflict of a stage, or `None` if the stage has none
abbrev pub IsLeastSpot : Stage → Option Spot → Type 0
IsLeastSpot stage None = HasNoConflict stage
IsLeastSpot stage (Some spot) = IsLeastConflict stage spot.a spot.b spot.key
