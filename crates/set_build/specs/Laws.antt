-- The laws of built sets (own).
use Rattle.std.specs.Prelude.{◌≡◌, ◌↔◌, ◌<◌, ℕ, true, List, [], ◌∷◌}
use Rattle.std.specs.List.{AllByRecursion}
use Rattle.stage_runs.specs.Maps.{Bytes}
use Rattle.stage_runs.specs.Transactions.{Envelope}
use Rattle.stage_runs.specs.Runs.{Cluster, Stage}
use Rattle.stage_runs.specs.Conflicts.{meet_at, IsFirstConflict}
use Rattle.set_build.specs.Built.{meets, built_stages}
use Rattle.set_build.specs.Placed.{IsSound, IsArranged}

-- A transaction meets a cluster exactly if the cluster and the transaction as a cluster of its own conflict on a key.
abbrev pub MeetsLaw : Type 0
MeetsLaw = (cluster : Cluster) (tx : Envelope) → (meets cluster tx ≡ true) ↔ ((q : Bytes) × (meet_at cluster (tx ∷ []) q ≡ true))

-- The stages are sound, and they have the transactions of the list in an order that keeps that of those that conflict.
abbrev pub BuiltLaw : Type 0
BuiltLaw = (max : ℕ) (envelopes : List Envelope) → 0 < max
    → AllByRecursion (IsSound max) (built_stages max envelopes) × IsArranged envelopes (built_stages max envelopes)

-- no stage has a conflict
abbrev pub HasNone : List Stage → Type 0
HasNone stages = (stage a b : ℕ) (key : Bytes) → ¬ (IsFirstConflict stages stage a b key)
