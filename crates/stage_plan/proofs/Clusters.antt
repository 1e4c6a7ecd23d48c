-- The least conflict of one cluster with those after it, and of a stage.
use Rattle.std.specs.List.{fold}
use Rattle.std.specs.Option.{option_map}
use Rattle.std.specs.Prelude.{slice_get}
use Rattle.std.proofs.Common.{◌≡◌, ◌⊎◌, inl, inr, ℕ, ◌+◌, ◌<◌, ◌≤◌, true, false, List, [], ◌∷◌, ◌++◌, length, map, get_or, take, Some, All, refl, sym, ap, subst, ◌∙◌, arith}
use Rattle.std.proofs.Math.Seq.{take-length}
use Rattle.std.proofs.lemmas.Bool.{cases_order}
use Rattle.std.proofs.lemmas.List.{take_more, length-map}
use Rattle.std.proofs.lemmas.List.Sums.{fold-append}
use Rattle.std.proofs.lemmas.Option.{slice_get_within, slice_get-map, slice_get_read}
use Rattle.tx_xdr.specs.declared.set.Cluster as sets
use Rattle.ledger_types.specs.Key.{key_format}
use Rattle.stage_runs.specs.Maps.{Bytes, LedgerKey}
use Rattle.stage_runs.specs.Transactions.{Envelope, declared_by}
use Rattle.stage_runs.specs.Runs.{Cluster, Stage, HasNoConflict}
use Rattle.stage_runs.specs.Conflicts.{meet_at, IsConflict}
use Rattle.stage_runs.proofs.Lemmas.{free_from, never}
use Rattle.stage_plan.specs.Least.{IsLeastAt, IsFirstWith}
use Rattle.stage_plan.specs.Spelled.{DeclaresSpelled, IsCluster}

-- ---- folds over a prefix of a list

pub fold_more : {A B : Type 0} (f : B → A → B) (b : B) (xs : List A) (i : ℕ) (x : A) → i < length xs → x ≡ get_or xs i x → fold f b (take (i + 1) xs) ≡ f (fold f b (take i xs)) x
fold_more f b xs i x lt is =
    ap (fold f b) (take_more xs i x lt ∙ ap (λ y. take i xs ++ y ∷ []) (sym is)) ∙ fold-append f b (take i xs) (x ∷ [])

pub take_all : {A : Type 0} (xs : List A) (i : ℕ) → length xs ≤ i → i ≤ length xs → take i xs ≡ xs
take_all xs i le ge = ap (λ (n : ℕ). take n xs) (omega (arith, le, ge)) ∙ take-length xs

-- ---- numbers

pub split_last : {A : Type 0} (k b : ℕ) → k < b + 1 → (k < b → A) → (k ≡ b → A) → A
split_last {A} k b lt f g = at (cases_order k b)
  where
    at : (k ≡ b) ⊎ ((k < b) ⊎ (b < k)) → A
    at (inl same) = g same
    at (inr (inl less)) = f less
    at (inr (inr more)) = absurd (omega arith)

pub not_less : (k b : ℕ) → (k < b → ⊥) → b ≤ k
not_less k b f = at (cases_order k b)
  where
    at : (k ≡ b) ⊎ ((k < b) ⊎ (b < k)) → b ≤ k
    at (inl same) = omega arith
    at (inr (inl less)) = absurd (f less)
    at (inr (inr more)) = omega arith

-- ---- the clusters of a stage of a transaction set

-- the envelopes of each cluster
abbrev pub envelopes_of : List sets.Cluster → Stage
envelopes_of clusters = map (λ c. c.envelopes) clusters

pub envelopes_at : (clusters : List sets.Cluster) (i : ℕ) (c : sets.Cluster) → i < length clusters → c ≡ get_or clusters i c → slice_get (envelopes_of clusters) i ≡ Some c.envelopes
envelopes_at clusters i c lt is =
    slice_get-map (λ (x : sets.Cluster). x.envelopes) clusters i
    ∙ ap (option_map (λ (x : sets.Cluster). x.envelopes)) (slice_get_read clusters (length clusters) i c refl lt is)

pub cluster_spelled : (clusters : List sets.Cluster) (i : ℕ) (c : sets.Cluster) → All (λ x. IsCluster x.envelopes) clusters → i < length clusters → c ≡ get_or clusters i c
    → IsCluster c.envelopes
cluster_spelled clusters i c h lt is = subst (λ (x : sets.Cluster). IsCluster x.envelopes) (sym is) (h i c lt)

-- the keys that a transaction of a cluster declares read-write are within their XDR formats
spelled_at : (all txs : Cluster) (i : ℕ) (tx : Envelope) → IsCluster all → txs ≡ all → i < length txs → tx ≡ get_or txs i tx → DeclaresSpelled tx
spelled_at all txs i tx h same lt is = subst DeclaresSpelled (sym is) (subst IsCluster (sym same) h i tx lt)

pub written_spelled : (all txs : Cluster) (i : ℕ) (tx : Envelope) (keys : List LedgerKey) → IsCluster all → txs ≡ all → i < length txs → tx ≡ get_or txs i tx
    → keys ≡ (declared_by tx).read_write → All key_format.fits keys
written_spelled all txs i tx keys h same lt is e = subst (All key_format.fits) (sym e) (spelled_at all txs i tx h same lt is).read_write

-- and so are those that it declares read-only
pub read_spelled : (all txs : Cluster) (i : ℕ) (tx : Envelope) (keys : List LedgerKey) → IsCluster all → txs ≡ all → i < length txs → tx ≡ get_or txs i tx
    → keys ≡ (declared_by tx).read_only → All key_format.fits keys
read_spelled all txs i tx keys h same lt is e = subst (All key_format.fits) (sym e) (spelled_at all txs i tx h same lt is).read_only

-- ---- conflicts of one cluster with those after it

same_some : {A : Type 0} (x y : A) → Some x ≡ Some y → x ≡ y
same_some x y e = cc

-- a conflict is one of the clusters at its indices
met : (stage : Stage) (a b : ℕ) (q : Bytes) (c d : Cluster) → slice_get stage a ≡ Some c → slice_get stage b ≡ Some d → IsConflict stage a b q → meet_at c d q ≡ true
met stage a b q c d at_a at_b h =
    ap (λ (x : Cluster). meet_at x d q) (same_some c h.first (sym at_a ∙ h.at_a))
    ∙ ap (λ (x : Cluster). meet_at h.first x q) (same_some d h.second (sym at_b ∙ h.at_b))
    ∙ h.meet

-- no conflict of the cluster at a with those before index b
abbrev pub NoneBefore : Stage → ℕ → ℕ → Type 0
NoneBefore stage a b = (d : ℕ) (q : Bytes) → d < b → IsConflict stage a d q → ⊥

pub none_more : (stage : Stage) (a b : ℕ) (c d : Cluster) → slice_get stage a ≡ Some c → slice_get stage b ≡ Some d → ((q : Bytes) → meet_at c d q ≡ false)
    → NoneBefore stage a b → NoneBefore stage a (b + 1)
none_more stage a b c d at_a at_b none before k q lt h =
    split_last k b lt (λ less. before k q less h)
    (λ same. never (met stage a b q c d at_a at_b (subst (λ (n : ℕ). IsConflict stage a n q) same h)) (none q))

pub none_after : (clusters : List sets.Cluster) (a b : ℕ) → length clusters ≤ b → NoneBefore (envelopes_of clusters) a b → (d : ℕ) (q : Bytes) → IsConflict (envelopes_of clusters) a d q → ⊥
none_after clusters a b le before d q h =
    let within = slice_get_within (envelopes_of clusters) d h.second h.at_b in
    let same : length (envelopes_of clusters) ≡ length clusters = length-map clusters (λ (x : sets.Cluster). x.envelopes) in
    before d q (omega (arith, within, same, le)) h

pub first_found : (stage : Stage) (a b : ℕ) (c d : Cluster) (key : Bytes) → a + 1 ≤ b → slice_get stage a ≡ Some c → slice_get stage b ≡ Some d → IsLeastAt c d key
    → NoneBefore stage a b → IsFirstWith stage a a b key
first_found stage a b c d key lt at_a at_b h before = record {
  at = refl;
  conflict = record { before = omega (arith, lt); first = c; second = d; at_a = at_a; at_b = at_b; meet = h.meet };
  least = λ k q conflict. (
    not_less k b (λ less. before k q less conflict),
    λ same. h.least q (met stage a b q c d at_a at_b (subst (λ (n : ℕ). IsConflict stage a n q) (sym same) conflict)),
  );
}

-- ---- conflicts of a stage

-- no conflict of a cluster before index a
abbrev pub NoneFrom : Stage → ℕ → Type 0
NoneFrom stage a = (c d : ℕ) (q : Bytes) → c < a → IsConflict stage c d q → ⊥

pub none_from_more : (stage : Stage) (a : ℕ) → ((d : ℕ) (q : Bytes) → IsConflict stage a d q → ⊥) → NoneFrom stage a → NoneFrom stage (a + 1)
none_from_more stage a none before c d q lt h =
    split_last c a lt (λ less. before c d q less h) (λ same. none d q (subst (λ (n : ℕ). IsConflict stage n d q) same h))

pub none_at_all : (clusters : List sets.Cluster) (a : ℕ) → length clusters ≤ a → NoneFrom (envelopes_of clusters) a → HasNoConflict (envelopes_of clusters)
none_at_all clusters a le before =
    let same : length (envelopes_of clusters) ≡ length clusters = length-map clusters (λ (x : sets.Cluster). x.envelopes) in
    free_from (envelopes_of clusters)
    (λ c d q h. before c d q (let within = slice_get_within (envelopes_of clusters) c h.first h.at_a in omega (arith, within, same, le)) h)
