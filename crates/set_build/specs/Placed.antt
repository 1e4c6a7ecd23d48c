-- What holds of a built set, in words that do not mention how it is built (own).
use Rattle.std.specs.Prelude.{◌≡◌, ◌⊎◌, ◌<◌, ◌≤◌, ℕ, true, List, [], ◌∷◌, Option, Some, map, length, get_or, slice_get}
use Rattle.std.specs.List.{AllByRecursion, sum_by}
use Rattle.tx_xdr.specs.Stages.{stages_of}
use Rattle.tx_xdr.specs.declared.set.TxSet.{TxSet}
use Rattle.stage_runs.specs.Transactions.{Envelope}
use Rattle.stage_runs.specs.Runs.{Stage, clusters_in, HasNoConflict}
use Rattle.set_build.specs.Built.{meets}

-- the stages of a set, each as the list of its clusters
abbrev pub stages_in : TxSet → List Stage
stages_in set = map clusters_in (stages_of set)

-- the number of clusters of all stages
abbrev pub cluster_count : List Stage → ℕ
cluster_count stages = sum_by length stages

-- A stage has a cluster, no empty cluster, at most this many clusters, and no conflict.
pub record IsSound (max : ℕ) (stage : Stage) : Type 0 where
  pub some : 0 < length stage
  pub full : AllByRecursion (λ cluster. 0 < length cluster) stage
  pub few : length stage ≤ max
  pub free : HasNoConflict stage

-- where a transaction stands: the indices of its stage, of its cluster in the stage, and its own index in the cluster
pub record Spot : Type 0 where
  pub stage : ℕ
  pub cluster : ℕ
  pub index : ℕ

-- the transaction there
abbrev pub at_spot : List Stage → Spot → Option Envelope
at_spot stages s = slice_get (get_or (get_or stages s.stage []) s.cluster []) s.index

-- in an earlier stage, or earlier in the same cluster
abbrev pub IsBefore : Spot → Spot → Type 0
IsBefore s t = (s.stage < t.stage) ⊎ ((s.stage ≡ t.stage) × (s.cluster ≡ t.cluster) × (s.index < t.index))

-- The transaction at each index of the list stands at the spot with this index. The spots are all different, and no transaction
-- stands anywhere else. Of two transactions that conflict, the earlier one in the list stands before the later one.
pub record ArePlaced (envelopes : List Envelope) (stages : List Stage) (spots : List Spot) : Type 0 where
  pub count : length spots ≡ length envelopes
  pub there : (k : ℕ) (s : Spot) → slice_get spots k ≡ Some s → at_spot stages s ≡ slice_get envelopes k
  pub once : (k l : ℕ) (s : Spot) → slice_get spots k ≡ Some s → slice_get spots l ≡ Some s → k ≡ l
  pub all : (s : Spot) (tx : Envelope) → at_spot stages s ≡ Some tx → (k : ℕ) × (slice_get spots k ≡ Some s)
  pub order : (k l : ℕ) (x y : Envelope) (s t : Spot) → k < l → slice_get envelopes k ≡ Some x → slice_get envelopes l ≡ Some y
      → slice_get spots k ≡ Some s → slice_get spots l ≡ Some t → meets (x ∷ []) y ≡ true → IsBefore s t

-- The set has the transactions of the list, each once, in an order that keeps the list's order of those that conflict.
abbrev pub IsArranged : List Envelope → List Stage → Type 0
IsArranged envelopes stages = (spots : List Spot) × ArePlaced envelopes stages spots
