-- The set that is built from a list of envelopes (own). Each envelope is placed into the last stage, in the order of the list.
use Rattle.std.specs.Prelude.{◌≡◌, ◌||◌, ℕ, suc, Bool, List, [], ◌∷◌, ◌++◌, None, map, length, get_or, set, nat_lt, nat_le}
use Rattle.std.specs.Prelude.{if◌then◌else◌}
use Rattle.std.specs.List.{fold, list_any, list_all, position_or_len}
use Rattle.xdr_spec.specs.Format.{zeros}
use Rattle.value_types.specs.Hash.{hash_of}
use Rattle.tx_xdr.specs.declared.set.Stage as sets
use Rattle.tx_xdr.specs.declared.set.Phase.TheVariants.{Parallel}
use Rattle.tx_xdr.specs.declared.set.TxSet.{TxSet}
use Rattle.stage_runs.specs.Maps.{key_bytes}
use Rattle.stage_runs.specs.Transactions.{Envelope, declared_by}
use Rattle.stage_runs.specs.Runs.{Cluster, Stage, writes_in, declares_in}
use Rattle.set_build.specs.declared.place.Place.{Place}
use Rattle.set_build.specs.declared.place.Place.TheVariants.{NewStage, NewCluster, InCluster}

-- One of the two declares a key read-write that the other one declares.
abbrev pub meets : Cluster → Envelope → Bool
meets cluster tx =
    list_any (λ key. declares_in cluster (key_bytes key)) (declared_by tx).read_write
    || list_any (λ key. writes_in cluster (key_bytes key)) (declared_by tx).read_only

-- the indices of the clusters that the transaction meets; the first cluster of the list has the index i
abbrev pub meeting_from : ℕ → Stage → Envelope → List ℕ
meeting_from i [] tx = []
meeting_from i (c ∷ stage) tx = if meets c tx then i ∷ meeting_from (suc i) stage tx else meeting_from (suc i) stage tx

-- the index of the least number, the first one of equal numbers
abbrev pub first_least : List ℕ → ℕ
first_least numbers = position_or_len (λ n. list_all (nat_le n) numbers) numbers

-- the index of the cluster with the fewest transactions, the first one of equal clusters
abbrev pub fewest : Stage → ℕ
fewest stage = first_least (map length stage)

-- Where a transaction goes that meets the clusters at these indices. If it meets none, it is a new cluster; if the stage is full,
-- it joins the cluster with the fewest transactions. If it meets one, it joins that one. If it meets more, it opens a new stage.
abbrev pub place_for : ℕ → Stage → List ℕ → Place
place_for max stage [] = if nat_lt (length stage) max then NewCluster else InCluster (fewest stage)
place_for max stage (i ∷ []) = InCluster i
place_for max stage (i ∷ j ∷ more) = NewStage

abbrev pub place_in : ℕ → Stage → Envelope → Place
place_in max stage tx = place_for max stage (meeting_from 0 stage tx)

-- the stages before the last one, and the last stage
pub record Building : Type 0 where
  pub earlier : List Stage
  pub last : Stage

-- the cluster at this index, with the transaction at its end
abbrev pub joined : Stage → ℕ → Envelope → Stage
joined stage i tx = set stage i (get_or stage i [] ++ tx ∷ [])

-- the stages after a transaction goes to its place
abbrev pub put : Building → Place → Envelope → Building
put b NewStage tx = record { earlier = b.earlier ++ b.last ∷ []; last = (tx ∷ []) ∷ [] }
put b NewCluster tx = record b { last = b.last ++ (tx ∷ []) ∷ [] }
put b (InCluster i) tx = record b { last = joined b.last i tx }

abbrev pub placed : ℕ → Building → Envelope → Building
placed max b tx = put b (place_in max b.last tx) tx

-- no stage before an empty one
abbrev pub start : Building
start = record { earlier = []; last = [] }

abbrev pub building : ℕ → List Envelope → Building
building max envelopes = fold (placed max) start envelopes

-- An empty last stage is none.
abbrev pub ended : List Stage → Stage → List Stage
ended earlier [] = earlier
ended earlier (c ∷ last) = earlier ++ (c ∷ last) ∷ []

-- the stages of the built set
abbrev pub built_stages : ℕ → List Envelope → List Stage
built_stages max envelopes = ended (building max envelopes).earlier (building max envelopes).last

-- a stage of a transaction set with these clusters
abbrev pub stage_with : Stage → sets.Stage
stage_with clusters = record { clusters = map (λ envelopes. record { envelopes = envelopes }) clusters }

-- a set with a zero hash and one phase, which has these stages and no base fee
abbrev pub set_with : List sets.Stage → TxSet
set_with stages = record { previous_ledger_hash = hash_of (zeros 32); phases = Parallel None stages ∷ [] }

-- The set has one phase, of stages without a base fee, and a zero hash.
abbrev pub IsInStages : TxSet → Type 0
IsInStages set = (stages : List sets.Stage) × (set ≡ set_with stages)

-- the built set
abbrev pub built_set : ℕ → List Envelope → TxSet
built_set max envelopes = set_with (map stage_with (built_stages max envelopes))
