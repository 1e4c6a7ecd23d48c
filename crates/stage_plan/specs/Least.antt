-- The least key on which two clusters conflict, and the least conflict of one cluster with those after it (own).
use Rattle.std.specs.Prelude.{◌≡◌, ◌≤◌, ℕ, true, false, Option, Some, None}
use Rattle.std.specs.Ordering.{nat_cmp}
use Rattle.std.specs.Cmp.Lexicographic.{slice_cmp}
use Rattle.std.specs.declared.cmp.Ordering.TheVariants.{Greater}
use Rattle.stage_runs.specs.Maps.{Bytes, LedgerKey, key_bytes}
use Rattle.stage_runs.specs.Runs.{Cluster, Stage}
use Rattle.stage_runs.specs.Conflicts.{meet_at, IsConflict}

-- The clusters conflict on the key with these bytes, and on no key below it.
pub record IsLeastAt (c d : Cluster) (key : Bytes) : Type 0 where
  pub meet : meet_at c d key ≡ true
  pub least : (q : Bytes) → meet_at c d q ≡ true → ¬ (slice_cmp nat_cmp key q ≡ Greater)

-- the least key on which the clusters conflict, or `None` if they do not conflict
abbrev pub IsLeastMeeting : Cluster → Cluster → Option LedgerKey → Type 0
IsLeastMeeting c d None = (q : Bytes) → meet_at c d q ≡ false
IsLeastMeeting c d (Some key) = IsLeastAt c d (key_bytes key)

-- The conflict of the clusters at the indices first and b is the least one of the cluster at index a with a later cluster.
pub record IsFirstWith (clusters : Stage) (a first b : ℕ) (key : Bytes) : Type 0 where
  pub at : first ≡ a
  pub conflict : IsConflict clusters a b key
  pub least : (d : ℕ) (q : Bytes) → IsConflict clusters a d q → (b ≤ d) × (b ≡ d → ¬ (slice_cmp nat_cmp key q ≡ Greater))
