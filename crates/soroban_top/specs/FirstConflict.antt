-- The first conflict of a set (own, after CAP-0063): by the index of its stage, then by those of its two clusters, then by the
-- bytes of its key.
use Rattle.std.specs.Prelude.{ℕ, zero, suc, Bool, List, [], ◌∷◌, ◌++◌, Option, Some, None, Result, Ok, Err, map, if◌then◌else◌}
use Rattle.std.specs.List.{flat_map}
use Rattle.std.specs.Option.{option_map, option_or}
use Rattle.std.specs.Ordering.{is_gt, nat_cmp}
use Rattle.std.specs.Cmp.Lexicographic.{slice_cmp}
use Rattle.stage_runs.specs.Maps.{Bytes, LedgerKey, key_bytes}
use Rattle.stage_runs.specs.Transactions.{Envelope, declared_by}
use Rattle.stage_runs.specs.Runs.{Cluster, Stage}
use Rattle.stage_runs.specs.Conflicts.{meet_at}
pub use Rattle.schedule_runs.specs.Plans.{stages_in}
use Rattle.tx_xdr.specs.declared.set.TxSet.{TxSet}
use Rattle.command_io.specs.declared.status.Status.{Status}
use Rattle.command_io.specs.declared.status.Status.TheVariants.{Conflict}

-- the index of the stage, those of the two clusters in it, and the XDR bytes of the key
pub record FoundConflict : Type 0 where
  pub stage : ℕ
  pub a : ℕ
  pub b : ℕ
  pub key : Bytes

-- ---- the least key of two clusters

-- all keys that a transaction declares
abbrev pub keys_of : Envelope → List LedgerKey
keys_of tx = (declared_by tx).read_only ++ (declared_by tx).read_write

-- the bytes of all keys that a cluster declares
abbrev pub bytes_declared : Cluster → List Bytes
bytes_declared cluster = map key_bytes (flat_map keys_of cluster)

-- the lesser of two keys
abbrev pub lesser : Bytes → Option Bytes → Bytes
lesser key None = key
lesser key (Some other) = if is_gt (slice_cmp nat_cmp key other) then other else key

-- the least of the keys for which the test holds
abbrev pub least_of : (Bytes → Bool) → List Bytes → Option Bytes
least_of test [] = None
least_of test (key ∷ keys) = if test key then Some (lesser key (least_of test keys)) else least_of test keys

-- the least key on which two clusters conflict
abbrev pub least_meeting : Cluster → Cluster → Option Bytes
least_meeting c d = least_of (meet_at c d) (bytes_declared c)

-- ---- the first conflict

-- the index of the first of these clusters that conflicts with a cluster, and the least key of this conflict
abbrev pub first_with : Cluster → List Cluster → Option (ℕ × Bytes)
first_with c [] = None
first_with c (d ∷ clusters) =
    option_or (option_map (λ key. (zero, key)) (least_meeting c d)) (option_map (λ f. (suc f.0, f.1)) (first_with c clusters))

-- the first conflict of a stage: the indices of its clusters, and its key
abbrev pub first_in : Stage → Option (ℕ × ℕ × Bytes)
first_in [] = None
first_in (c ∷ clusters) =
    option_or (option_map (λ f. (zero, suc f.0, f.1)) (first_with c clusters))
    (option_map (λ f. (suc f.0, suc f.1, f.2)) (first_in clusters))

-- a conflict of a stage in the stage with this index
abbrev pub in_stage : ℕ → ℕ × ℕ × Bytes → FoundConflict
in_stage stage f = record { stage = stage; a = f.0; b = f.1; key = f.2 }

-- a conflict, counted from one stage before
abbrev pub stage_later : FoundConflict → FoundConflict
stage_later f = record f { stage = suc f.stage }

-- the first conflict of a set
unfoldable pub first_conflict : List Stage → Option FoundConflict
first_conflict [] = None
first_conflict (clusters ∷ stages) =
    option_or (option_map (in_stage zero) (first_in clusters)) (option_map stage_later (first_conflict stages))

-- ---- its status

abbrev pub unless_found : Option FoundConflict → Result (Unit {0}) Status
unless_found None = Ok tt
unless_found (Some f) = Err (Conflict f.stage f.a f.b f.key)

-- no stage of the set has a conflict, or the status of the first conflict
unfoldable pub free_of_conflict : TxSet → Result (Unit {0}) Status
free_of_conflict set = unless_found (first_conflict (stages_in set))
