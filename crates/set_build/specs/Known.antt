-- What is known of the last stage while transactions are placed (own).
use Rattle.std.specs.Prelude.{◌≡◌, ◌==◌, ◌||◌, ◌<◌, ◌+◌, ◌*◌, ◌%◌, ◌^◌, ◌↔◌, ℕ, Vec, All, Bool, true, false}
use Rattle.std.specs.Prelude.{List, [], ◌∷◌, ◌++◌, Option, Some, None}
use Rattle.std.specs.Prelude.{map, length, get_or, set, take, nat_lt, slice_get, if◌then◌else◌}
use Rattle.std.specs.List.{fold, list_any}
use Rattle.std.specs.BTreeMap.{BTreeMap, get_by}
use Rattle.std.specs.BTreeSet.{contains}
use Rattle.std.specs.Cmp.Lexicographic.{slice_cmp}
use Rattle.std.specs.Ordering.{nat_cmp, ordering_then}
use Rattle.std.specs.Str.{bytes_eq}
use Rattle.std.specs.declared.cmp.Ordering.{Ordering}
use Rattle.stage_runs.specs.Maps.{Bytes, key_bytes}
use Rattle.stage_runs.specs.Transactions.{Envelope, declared_by}
use Rattle.stage_runs.specs.Runs.{Cluster, Stage, writes_in, declares_in}
use Rattle.set_build.specs.Built.{first_least, place_in, building, Building, put}
use Rattle.set_build.specs.declared.declarer.Declarer.{Declarer}
use Rattle.set_build.specs.declared.envelope_keys.EnvelopeKeys.{EnvelopeKeys}
use Rattle.set_build.specs.declared.met.Met.{Met}
use Rattle.set_build.specs.declared.met.Met.TheVariants as met
use Rattle.set_build.specs.declared.place.Place.{Place}
use Rattle.set_build.specs.declared.place.Place.TheVariants.{NewStage, NewCluster, InCluster}
use Rattle.set_build.specs.declared.sizes.Sizes.{Sizes}
use Rattle.set_build.specs.declared.last_stage.LastStage.{LastStage}

-- ---- the keys that a transaction declares

-- a polynomial of the bytes; different bytes can have equal fingerprints
abbrev pub fingerprint : Bytes → ℕ
fingerprint bytes = fold (λ number byte. (number * 257 % 2 ^ 64 + byte) % 2 ^ 64) 0 bytes

-- The number in front of the bytes is their fingerprint.
abbrev pub IsMarked : {Z : Type 0} → ℕ × Vec ℕ Z → Type 0
IsMarked key = key.0 ≡ fingerprint key.1.items

abbrev pub AreMarked : EnvelopeKeys → Type 0
AreMarked keys = All IsMarked keys.read_write.items × All IsMarked keys.read_only.items

-- the bytes without their fingerprints
abbrev pub bytes_in : {Z : Type 0} → List (ℕ × Vec ℕ Z) → List Bytes
bytes_in keys = map (λ k. k.1.items) keys

-- the XDR bytes of keys that are declared read-write and read-only
pub record Named : Type 0 where
  pub read_write : List Bytes
  pub read_only : List Bytes

abbrev pub named : EnvelopeKeys → Named
named keys = record { read_write = bytes_in keys.read_write.items; read_only = bytes_in keys.read_only.items }

-- those of the keys that a transaction declares
abbrev pub named_by : Envelope → Named
named_by tx = record {
  read_write = map key_bytes (declared_by tx).read_write;
  read_only = map key_bytes (declared_by tx).read_only;
}

-- The keys are those that the transaction declares.
pub record AreOf (tx : Envelope) (keys : EnvelopeKeys) : Type 0 where
  pub marked : AreMarked keys
  pub bytes : named keys ≡ named_by tx

-- ---- who declares a key

-- who declares the key with these XDR bytes
abbrev pub Who : Type 0
Who = Bytes → Option Declarer

-- the order of the code's map: by the fingerprints, and by the bytes if these are equal
abbrev pub bytes_cmp : {Z : Type 0} → Bytes → ℕ × Vec ℕ Z → Ordering
bytes_cmp q key = ordering_then (nat_cmp (fingerprint q) key.0) (slice_cmp nat_cmp q key.1.items)

abbrev pub who : {Z : Type 0} → BTreeMap (ℕ × Vec ℕ Z) Declarer → Who
who keys q = get_by (bytes_cmp q) keys

-- what is known of a key after the cluster at this index declares it
abbrev pub declared_too : ℕ → Bool → Option Declarer → Declarer
declared_too number writes None = record { cluster = number; writes = writes; shared = false }
declared_too number writes (Some d) =
    if d.cluster == number then record d { writes = d.writes || writes } else record d { shared = true }

-- who declares the key with the bytes q after the cluster at this index declares these keys
abbrev pub noted : ℕ → Bool → List Bytes → Who → Who
noted number writes more keys q =
    if list_any (bytes_eq q) more then Some (declared_too number writes (keys q)) else keys q

-- the same after a transaction joins the cluster at this index
abbrev pub noted_by : ℕ → Named → Who → Who
noted_by number more keys q = noted number false more.read_only (noted number true more.read_write keys) q

-- the cluster at an index, which is empty past the stage's end
abbrev pub cluster_at : Stage → ℕ → Cluster
cluster_at stage i = get_or stage i []

-- a cluster that declares the key, whether it writes the key, and whether another cluster declares the key
pub record IsDeclarer (stage : Stage) (q : Bytes) (d : Declarer) : Type 0 where
  pub declares : declares_in (cluster_at stage d.cluster) q ≡ true
  pub writes : d.writes ≡ writes_in (cluster_at stage d.cluster) q
  pub alone : d.shared ≡ false → (j : ℕ) → declares_in (cluster_at stage j) q ≡ true → j ≡ d.cluster
  pub other : d.shared ≡ true → (j : ℕ) × (¬ (j ≡ d.cluster)) × (declares_in (cluster_at stage j) q ≡ true)

abbrev pub IsKnown : Stage → Bytes → Option Declarer → Type 0
IsKnown stage q None = (j : ℕ) → declares_in (cluster_at stage j) q ≡ false
IsKnown stage q (Some d) = IsDeclarer stage q d

abbrev pub AreKnown : Stage → Who → Type 0
AreKnown stage keys = (q : Bytes) → IsKnown stage q (keys q)

-- ---- which clusters a transaction meets

-- the clusters met on a key that the transaction declares, read-write or not
abbrev pub met_on : Bool → Option Declarer → Met
met_on writes None = met.None
met_on true (Some d) = if d.shared then met.Many else met.One d.cluster
met_on false (Some d) = if d.writes then met.One d.cluster else met.None

-- the clusters of both
abbrev pub met_with : Met → Met → Met
met_with met.None n = n
met_with met.Many n = met.Many
met_with (met.One i) met.None = met.One i
met_with (met.One i) met.Many = met.Many
met_with (met.One i) (met.One j) = if i == j then met.One i else met.Many

abbrev pub met_all : Who → Bool → Met → List Bytes → Met
met_all keys writes m more = fold (λ n key. met_with n (met_on writes (keys key))) m more

abbrev pub met_by : Who → Named → Met
met_by keys more = met_all keys false (met_all keys true met.None more.read_write) more.read_only

-- the place by the numbers of transactions of the clusters, and by which clusters are met
abbrev pub place_by : ℕ → List ℕ → Met → Place
place_by max sizes met.None = if nat_lt (length sizes) max then NewCluster else InCluster (first_least sizes)
place_by max sizes (met.One i) = InCluster i
place_by max sizes met.Many = NewStage

-- the clusters with these indices alone
abbrev pub IsMet : (ℕ → Bool) → Met → Type 0
IsMet test met.None = (j : ℕ) → test j ≡ false
IsMet test (met.One i) = (test i ≡ true) × ((j : ℕ) → test j ≡ true → j ≡ i)
IsMet test met.Many = (i : ℕ) × (j : ℕ) × (¬ (i ≡ j)) × (test i ≡ true) × (test j ≡ true)

-- ---- the numbers of transactions

abbrev pub size_cmp : ℕ × ℕ → ℕ × ℕ → Ordering
size_cmp x y = ordering_then (nat_cmp x.0 y.0) (nat_cmp x.1 y.1)

-- the set has the pairs of a number and its index
abbrev pub IsRanked : Sizes → Type 0
IsRanked sizes = (p : ℕ × ℕ) → (contains size_cmp sizes.by_size p ≡ true) ↔ (slice_get sizes.counts.items p.1 ≡ Some p.0)

-- the numbers after a transaction goes to its place
abbrev pub counts_after : List ℕ → Place → List ℕ
counts_after counts NewStage = counts ++ 1 ∷ []
counts_after counts NewCluster = counts ++ 1 ∷ []
counts_after counts (InCluster i) = set counts i (get_or counts i 0 + 1)

-- The place is a cluster of the stage, or a new one. One more transaction can be counted.
abbrev pub IsThere : List ℕ → Place → Type 0
IsThere counts (InCluster i) = (i < length counts) × (get_or counts i 0 < 18446744073709551615)
IsThere counts _ = Unit {0}

-- ---- the last stage

-- who declares the keys after a transaction of these keys goes to its place
abbrev pub keys_after : Who → List ℕ → Place → Named → Who
keys_after keys counts NewStage more q = noted_by (length counts) more keys q
keys_after keys counts NewCluster more q = noted_by (length counts) more keys q
keys_after keys counts (InCluster i) more q = noted_by i more keys q

pub record IsLast (stage : Stage) (last : LastStage) : Type 0 where
  pub keys : AreKnown stage (who last.keys)
  pub counts : last.sizes.counts.items ≡ map length stage
  pub ranked : IsRanked last.sizes

-- the last stage before a transaction goes to its place: a new stage has no clusters yet
abbrev pub begun : Stage → Place → Stage
begun stage NewStage = []
begun stage _ = stage

-- the last stage after a transaction goes to its place
abbrev pub last_after : Stage → Place → Envelope → Stage
last_after stage place tx = (let b : Building = record { earlier = []; last = stage } in put b place tx).last

-- ---- the plan

-- the places of the first n envelopes
pub record ArePlanned (max : ℕ) (envelopes : List Envelope) (n : ℕ) (places : List Place) : Type 0 where
  pub count : length places ≡ n
  pub each : (k : ℕ) (tx : Envelope) → k < n → slice_get envelopes k ≡ Some tx
      → slice_get places k ≡ Some (place_in max (building max (take k envelopes)).last tx)
