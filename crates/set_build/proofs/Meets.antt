-- A transaction meets a cluster exactly where the two conflict on a key.
use Rattle.std.specs.List.{list_any}
use Rattle.std.specs.Prelude.{slice_get, ◌&&◌, ◌↔◌}
use Rattle.std.specs.Str.{bytes_eq}
use Rattle.std.proofs.Common.{◌≡◌, ℕ, Bool, true, false, ◌||◌, List, [], ◌∷◌, ◌++◌, Some, refl, sym, ap, ◌∙◌}
use Rattle.std.proofs.lemmas.List.Folds.{list_any-append}
use Rattle.std.proofs.lemmas.Slice.Eq.{bytes_eq-Decides}
use Rattle.stage_runs.specs.Maps.{Bytes, LedgerKey, key_bytes, has_bytes}
use Rattle.stage_runs.specs.Transactions.{Envelope, declared_by, writes, declares}
use Rattle.stage_runs.specs.Runs.{Cluster, writes_in, declares_in}
use Rattle.stage_runs.specs.Conflicts.{meet_at}
use Rattle.stage_runs.proofs.Lemmas.{both_first, both_second, cases, left_false, left_true, never, one_true, right_false, right_true, write_declared}
use Rattle.set_build.specs.Built.{meets}
use Rattle.set_build.proofs.Tests.{or_none, none_passes, any_at, any_more}

-- ---- keys that are tested by their bytes

abbrev some_key : (Bytes → Bool) → List LedgerKey → Bool
some_key test keys = list_any (λ key. test (key_bytes key)) keys

none_of : (test : Bytes → Bool) (keys : List LedgerKey) (q : Bytes) → some_key test keys ≡ false → has_bytes keys q ≡ true → test q ≡ false
none_of test [] q none h = absurd cc
none_of test (k ∷ keys) q none h =
    one_true (bytes_eq q (key_bytes k)) (has_bytes keys q) h
    (λ same. ap test ((bytes_eq-Decides q (key_bytes k)).0 same) ∙ left_false (test (key_bytes k)) (some_key test keys) none)
    (λ there. none_of test keys q (right_false (test (key_bytes k)) (some_key test keys) none) there)

some_of : (test : Bytes → Bool) (keys : List LedgerKey) → some_key test keys ≡ true → (q : Bytes) × (has_bytes keys q ≡ true) × (test q ≡ true)
some_of test [] h = absurd cc
some_of test (k ∷ keys) h =
    one_true (test (key_bytes k)) (some_key test keys) h
    (λ here. (key_bytes k, left_true (bytes_eq (key_bytes k) (key_bytes k)) (has_bytes keys (key_bytes k)) ((bytes_eq-Decides (key_bytes k) (key_bytes k)).1 refl), here))
    (λ there. let rest = some_of test keys there in (rest.0, right_true (bytes_eq rest.0 (key_bytes k)) (has_bytes keys rest.0) rest.1, rest.2))

-- ---- a transaction that meets no key of a cluster

abbrev by_write : Cluster → Envelope → Bool
by_write c tx = some_key (declares_in c) (declared_by tx).read_write

abbrev by_read : Cluster → Envelope → Bool
by_read c tx = some_key (writes_in c) (declared_by tx).read_only

pub write_declares : (tx : Envelope) (q : Bytes) → writes tx q ≡ true → declares tx q ≡ true
write_declares tx q w = right_true (has_bytes (declared_by tx).read_only q) (writes tx q) w

unwritten : (c : Cluster) (q : Bytes) → declares_in c q ≡ false → writes_in c q ≡ false
unwritten c q none = cases (writes_in c q) (λ w. never (write_declared c q w) none) (λ w. w)

-- the cluster declares no key that the transaction writes, and writes none that the transaction declares
pub unmet_written : (c : Cluster) (tx : Envelope) (q : Bytes) → meets c tx ≡ false → writes tx q ≡ true → declares_in c q ≡ false
unmet_written c tx q none h = none_of (declares_in c) (declared_by tx).read_write q (left_false (by_write c tx) (by_read c tx) none) h

pub unmet_declared : (c : Cluster) (tx : Envelope) (q : Bytes) → meets c tx ≡ false → declares tx q ≡ true → writes_in c q ≡ false
unmet_declared c tx q none h =
    one_true (has_bytes (declared_by tx).read_only q) (writes tx q) h
    (λ r. none_of (writes_in c) (declared_by tx).read_only q (right_false (by_write c tx) (by_read c tx) none) r)
    (λ w. unwritten c q (unmet_written c tx q none w))

pub meets_nothing : (tx : Envelope) → meets [] tx ≡ false
meets_nothing tx = ap (λ (b : Bool). b || by_read [] tx) (none_passes (declared_by tx).read_write) ∙ none_passes (declared_by tx).read_only

-- ---- clusters with more transactions

pub declares_more : (c : Cluster) (tx : Envelope) (q : Bytes) → declares_in (c ++ tx ∷ []) q ≡ (declares_in c q || declares tx q)
declares_more c tx q = list_any-append (λ x. declares x q) c (tx ∷ []) ∙ ap (λ (b : Bool). declares_in c q || b) (or_none (declares tx q))

pub writes_more : (c : Cluster) (tx : Envelope) (q : Bytes) → writes_in (c ++ tx ∷ []) q ≡ (writes_in c q || writes tx q)
writes_more c tx q = list_any-append (λ x. writes x q) c (tx ∷ []) ∙ ap (λ (b : Bool). writes_in c q || b) (or_none (writes tx q))

-- a transaction meets the cluster of each transaction that it meets
pub meets_whole : (c : Cluster) (i : ℕ) (x tx : Envelope) → slice_get c i ≡ Some x → meets (x ∷ []) tx ≡ true → meets c tx ≡ true
meets_whole c i x tx at h =
    one_true (by_write (x ∷ []) tx) (by_read (x ∷ []) tx) h
    (λ w. left_true (by_write c tx) (by_read c tx)
    (any_more (λ key. declares_in (x ∷ []) (key_bytes key)) (λ key. declares_in c (key_bytes key)) (declared_by tx).read_write
    (λ key d. any_at (λ y. declares y (key_bytes key)) c i x at (sym (or_none (declares x (key_bytes key))) ∙ d)) w))
    (λ r. right_true (by_write c tx) (by_read c tx)
    (any_more (λ key. writes_in (x ∷ []) (key_bytes key)) (λ key. writes_in c (key_bytes key)) (declared_by tx).read_only
    (λ key d. any_at (λ y. writes y (key_bytes key)) c i x at (sym (or_none (writes x (key_bytes key))) ∙ d)) r))

-- ---- the law

both : (a b : Bool) → a ≡ true → b ≡ true → (a && b) ≡ true
both true b p q = q
both false b p q = cc

met_from : (c : Cluster) (tx : Envelope) → meets c tx ≡ true → (q : Bytes) × (meet_at c (tx ∷ []) q ≡ true)
met_from c tx h =
    one_true (by_write c tx) (by_read c tx) h
    (λ w. let k = some_of (declares_in c) (declared_by tx).read_write w in (
      k.0,
      right_true (writes_in c k.0 && declares_in (tx ∷ []) k.0) (writes_in (tx ∷ []) k.0 && declares_in c k.0)
          (both (writes_in (tx ∷ []) k.0) (declares_in c k.0) (or_none (writes tx k.0) ∙ k.1) k.2),
    ))
    (λ r. let k = some_of (writes_in c) (declared_by tx).read_only r in (
      k.0,
      left_true (writes_in c k.0 && declares_in (tx ∷ []) k.0) (writes_in (tx ∷ []) k.0 && declares_in c k.0)
          (both (writes_in c k.0) (declares_in (tx ∷ []) k.0) k.2
          (or_none (declares tx k.0) ∙ left_true (has_bytes (declared_by tx).read_only k.0) (writes tx k.0) k.1)),
    ))

met_to : (c : Cluster) (tx : Envelope) (q : Bytes) → meet_at c (tx ∷ []) q ≡ true → meets c tx ≡ true
met_to c tx q h =
    cases (meets c tx) (λ m. m)
    (λ none. one_true (writes_in c q && declares_in (tx ∷ []) q) (writes_in (tx ∷ []) q && declares_in c q) h
    (λ w. never (both_first (writes_in c q) (declares_in (tx ∷ []) q) w)
    (unmet_declared c tx q none (sym (or_none (declares tx q)) ∙ both_second (writes_in c q) (declares_in (tx ∷ []) q) w)))
    (λ w. never (both_second (writes_in (tx ∷ []) q) (declares_in c q) w)
    (unmet_written c tx q none (sym (or_none (writes tx q)) ∙ both_first (writes_in (tx ∷ []) q) (declares_in c q) w))))

pub meets_law : (c : Cluster) (tx : Envelope) → (meets c tx ≡ true) ↔ ((q : Bytes) × (meet_at c (tx ∷ []) q ≡ true))
meets_law c tx = (met_from c tx, λ k. met_to c tx k.0 k.1)
