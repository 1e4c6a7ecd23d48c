-- What clusters note on parts is what they note in the stage in order.
use Rattle.std.specs.FinMap.{get, retain_keys}
use Rattle.std.specs.List.{AllByRecursion}
use Rattle.std.proofs.Common.{◌≡◌, Bool, true, false, not, ◌||◌, cond, List, [], ◌∷◌, ◌++◌, filter, Option, None, refl, sym, ap, ap₂, ◌∙◌}
use Rattle.stage_runs.specs.Maps.{Bytes, Kept, LedgerMap, AgreeOn, laid_over}
use Rattle.stage_runs.specs.Transactions.{Envelope, Effect, Step, writes, declares, IsFramed}
use Rattle.stage_runs.specs.Runs.{Cluster, Stage, RunState, is_written, before, after, start, run_transaction, run_all, run_next_cluster, writes_in, declares_in, AreApart, HasNoConflict, SameOn}
use Rattle.stage_runs.specs.Parts.{is_moved}
use Rattle.ledger_parts.specs.Shown.{shown_step, shown_with, PassesRead}
use Rattle.ledger_parts.specs.Cut.{without, left_of, cut_from}
use Rattle.ledger_parts.specs.Notes.{Note, AgreeElsewhere, IsFramedNote, noted_in, noted_in_stage, shown_note, noted_over}
use Rattle.stage_runs.proofs.Lemmas.{apart_unwritten, cases, change_untouched, cluster_untouched, found_kept, found_over, kept_pass, left_true, never, one_true, or_else, or_none, owned_view, put_untouched, right_true, same, transaction_frame, transaction_untouched, unmoved, view, write_declared}
use Rattle.ledger_parts.specs.Sees.{found_shown_with}
use Rattle.ledger_parts.proofs.Seen.{found_left}

-- transactions that run after others note what they note on the state that these leave
pub noted_append : {K : Type 0} (step : Step) (note : Note K) (cluster later : Cluster) (r : RunState)
    → noted_in step note r (cluster ++ later) ≡ noted_in step note r cluster ++ noted_in step note (run_all step r cluster) later
noted_append step note [] later r = refl
noted_append {K} step note (tx ∷ cluster) later r =
    ap (λ (ks : List K). note r.entries (run_transaction step r tx).entries tx ∷ ks) (noted_append step note cluster later (run_transaction step r tx))

-- ---- what is noted depends on the declared keys

module _ {K : Type 0} (step : Step) (laws : IsFramed step) (note : Note K) (framed : IsFramedNote note) where
  noted_frame : (keys : Bytes → Bool) (cluster : Cluster) → ((q : Bytes) → declares_in cluster q ≡ true → keys q ≡ true)
      → (r s : RunState) → SameOn keys r s → noted_in step note r cluster ≡ noted_in step note s cluster
  noted_frame keys [] within r s h = refl
  noted_frame keys (tx ∷ cluster) within r s h =
      let here : (q : Bytes) → declares tx q ≡ true → keys q ≡ true = λ q d. within q (left_true (declares tx q) (declares_in cluster q) d) in
      let h' : SameOn keys (run_transaction step r tx) (run_transaction step s tx) = transaction_frame step laws keys tx here r s h in
      ap₂ (λ (k : K) (ks : List K). k ∷ ks)
      (framed r.entries (run_transaction step r tx).entries s.entries (run_transaction step s tx).entries tx
      (λ q w. sym (transaction_untouched step laws r tx q w)) (λ q w. sym (transaction_untouched step laws s tx q w))
      (λ q d. h.agree q (here q d)) (λ q d. h'.agree q (here q d)))
      (noted_frame keys cluster (λ q d. within q (right_true (declares tx q) (declares_in cluster q) d)) (run_transaction step r tx) (run_transaction step s tx) h')

  pub noted_alike : (m n : LedgerMap) (cluster : Cluster) → AgreeOn (declares_in cluster) m n → noted_in step note (start m) cluster ≡ noted_in step note (start n) cluster
  noted_alike m n cluster h = noted_frame (declares_in cluster) cluster (λ q d. d) (start m) (start n) (record { pending = refl; results = refl; agree = h })

-- ---- what a cluster notes that sees only what it reads

module _ {K : Type 0} (step : Step) (laws : IsFramed step) (note : Note K) (framed : IsFramedNote note) (reads : Bytes → Bool) (lent : LedgerMap) where
  -- the shown map has all that a transaction sees
  shown_agrees : (tx : Envelope) (own : LedgerMap) → ((q : Bytes) → declares tx q ≡ true → reads q ≡ false → get lent q ≡ None)
      → (q : Bytes) → declares tx q ≡ true → get (shown_with reads lent own) q ≡ get (laid_over own lent) q
  shown_agrees tx own enough q d = found_shown_with reads lent own q ∙ at (reads q) refl ∙ sym (found_over own lent q)
    where
      at : (b : Bool) → reads q ≡ b → or_else (get own q) (cond b (get lent q) None) ≡ or_else (get own q) (get lent q)
      at true e = refl
      at false e = ap (or_else (get own q)) (sym (enough q d e))

  -- a transaction on a part is the transaction on the part's entries over all that is lent
  seen_view : (tx : Envelope) (r : RunState)
      → ((q : Bytes) → declares tx q ≡ true → reads q ≡ false → get lent q ≡ None)
      → ((q : Bytes) → writes tx q ≡ true → get lent q ≡ None)
      → view lent (run_transaction (shown_step (shown_with reads lent) step) r tx) ≡ run_transaction step (view lent r) tx
  seen_view tx r enough none =
      ap (λ (x : Effect). view lent (after x (before tx r)))
      (laws.framed (shown_with reads lent (before tx r).entries) (laid_over (before tx r).entries lent) tx (shown_agrees tx (before tx r).entries enough))
      ∙ owned_view step laws lent (tx ∷ []) r (λ q w. one_true (writes tx q) false w (λ v. none q v) (λ v. never v refl))

  -- a transaction on a part leaves the part's entries as they were at each key that it does not declare read-write
  seen_untouched : (tx : Envelope) (r : RunState) (q : Bytes) → writes tx q ≡ false
      → get r.entries q ≡ get (run_transaction (shown_step (shown_with reads lent) step) r tx).entries q
  seen_untouched tx r q w =
      let seen : LedgerMap = shown_with reads lent (before tx r).entries in
      sym
      (change_untouched (writes tx) (step seen tx).changes (before tx r).entries q (laws.changed seen tx) w
      ∙ put_untouched (writes tx) (filter (is_written tx) r.pending) r.entries q (kept_pass (is_written tx) r.pending) w)

  -- so the maps that are shown, and those over all that is lent, agree there
  shown_elsewhere : (tx : Envelope) (own own' : LedgerMap) → AgreeElsewhere tx own own'
      → AgreeElsewhere tx (shown_with reads lent own) (shown_with reads lent own')
  shown_elsewhere tx own own' h q w =
      found_shown_with reads lent own q
      ∙ ap (λ (o : Option Kept). or_else o (cond (reads q) (get lent q) None)) (h q w)
      ∙ sym (found_shown_with reads lent own' q)

  over_elsewhere : (tx : Envelope) (own own' : LedgerMap) → AgreeElsewhere tx own own'
      → AgreeElsewhere tx (laid_over own lent) (laid_over own' lent)
  over_elsewhere tx own own' h q w =
      found_over own lent q ∙ ap (λ (o : Option Kept). or_else o (get lent q)) (h q w) ∙ sym (found_over own' lent q)

  noted_all : (cluster : Cluster) (r : RunState)
      → ((q : Bytes) → declares_in cluster q ≡ true → reads q ≡ false → get lent q ≡ None)
      → ((q : Bytes) → writes_in cluster q ≡ true → get lent q ≡ None)
      → noted_in (shown_step (shown_with reads lent) step) (shown_note (shown_with reads lent) note) r cluster ≡ noted_in step note (view lent r) cluster
  noted_all [] r enough none = refl
  noted_all (tx ∷ cluster) r enough none =
      let s : RunState = run_transaction (shown_step (shown_with reads lent) step) r tx in
      let here : (q : Bytes) → declares tx q ≡ true → reads q ≡ false → get lent q ≡ None = λ q d. enough q (left_true (declares tx q) (declares_in cluster q) d) in
      let viewed : view lent s ≡ run_transaction step (view lent r) tx = seen_view tx r here (λ q w. none q (left_true (writes tx q) (writes_in cluster q) w)) in
      ap₂ (λ (k : K) (ks : List K). k ∷ ks)
      (framed (shown_with reads lent r.entries) (shown_with reads lent s.entries) (laid_over r.entries lent) (laid_over s.entries lent) tx
      (shown_elsewhere tx r.entries s.entries (seen_untouched tx r)) (over_elsewhere tx r.entries s.entries (seen_untouched tx r))
      (shown_agrees tx r.entries here) (shown_agrees tx s.entries here)
      ∙ ap (λ (t : RunState). note (laid_over r.entries lent) t.entries tx) viewed)
      (noted_all cluster s (λ q d. enough q (right_true (declares tx q) (declares_in cluster q) d)) (λ q w. none q (right_true (writes tx q) (writes_in cluster q) w))
      ∙ ap (λ (t : RunState). noted_in step note t cluster) viewed)

  pub noted_seen : (own : LedgerMap) (cluster : Cluster) → PassesRead reads cluster → ((q : Bytes) → writes_in cluster q ≡ true → get lent q ≡ None)
      → noted_in (shown_step (shown_with reads lent) step) (shown_note (shown_with reads lent) note) (start own) cluster
      ≡ noted_in step note (start (laid_over own lent)) cluster
  noted_seen own cluster passes none =
      noted_all cluster (start own) (λ q d e. cases (writes_in cluster q) (λ w. none q w) (λ w. never (passes q d w) e)) none

-- ---- what the clusters of a stage note whose entries are cut out one after the other

-- the part of a cluster, over what is lent, has what the map has at the cluster's declared keys
abbrev Agree : LedgerMap → LedgerMap → LedgerMap → Cluster → Type 0
Agree m lent now c = AgreeOn (declares_in c) (laid_over (retain_keys m (writes_in c)) lent) now

-- what another cluster takes out is nothing that a cluster apart owns
own_still : (m : LedgerMap) (c d : Cluster) → AreApart c d → retain_keys (without m c) (writes_in d) ≡ retain_keys m (writes_in d)
own_still m c d apart = same _ _ (λ q. found_kept (without m c) (writes_in d) q ∙ at q (writes_in d q) refl ∙ sym (found_kept m (writes_in d) q))
  where
    at : (q : Bytes) (b : Bool) → writes_in d q ≡ b → cond b (get (without m c) q) None ≡ cond b (get m q) None
    at q true w =
        found_kept m (λ p. not (writes_in c p)) q
        ∙ ap (λ b. cond (not b) (get m q) None) (apart_unwritten c d q apart (write_declared d q w))
    at q false w = refl

module _ {K : Type 0} (step : Step) (laws : IsFramed step) (note : Note K) (framed : IsFramedNote note) where
  agree_still : (m lent : LedgerMap) (r : RunState) (c : Cluster) (clusters : Stage) → AllByRecursion (AreApart c) clusters
      → AllByRecursion (Agree m lent r.entries) clusters → AllByRecursion (Agree (without m c) lent (run_next_cluster step r c).entries) clusters
  agree_still m lent r c [] apart h = tt
  agree_still m lent r c (d ∷ clusters) apart h = (
    (λ q k.
        ap (λ (own : LedgerMap). get (laid_over own lent) q) (own_still m c d apart.0)
        ∙ h.0 q k
        ∙ sym (cluster_untouched step laws c r.entries q (apart_unwritten c d q apart.0 k))),
    agree_still m lent r c clusters apart.1 h.1,
  )

  noted_cut_from : (m lent : LedgerMap) (r : RunState) (clusters : Stage) → HasNoConflict clusters → AllByRecursion (Agree m lent r.entries) clusters
      → noted_over step note lent (cut_from m clusters) clusters ≡ noted_in_stage step note r clusters
  noted_cut_from m lent r [] free h = refl
  noted_cut_from m lent r (c ∷ clusters) free h =
      ap₂ (λ (ks : List K) (kss : List (List K)). ks ∷ kss)
      (noted_alike step laws note framed (laid_over (retain_keys m (writes_in c)) lent) r.entries c h.0)
      (noted_cut_from (without m c) lent (run_next_cluster step r c) clusters free.1 (agree_still m lent r c clusters free.0 h.1))

-- in a stage without a conflict, a key that a cluster declares is moved exactly if this cluster declares it read-write
abbrev MovedAlone : Stage → Cluster → Type 0
MovedAlone all c = (q : Bytes) → declares_in c q ≡ true → is_moved all q ≡ writes_in c q

moved_later : (c : Cluster) (all clusters : Stage) → AllByRecursion (AreApart c) clusters → AllByRecursion (MovedAlone all) clusters → AllByRecursion (MovedAlone (c ∷ all)) clusters
moved_later c all [] apart h = tt
moved_later c all (d ∷ clusters) apart h = (
  (λ q k. ap (λ b. b || is_moved all q) (apart_unwritten c d q apart.0 k) ∙ h.0 q k),
  moved_later c all clusters apart.1 h.1,
)

or_false : (b : Bool) → (b || false) ≡ b
or_false true = refl
or_false false = refl

moved_alone : (clusters : Stage) → HasNoConflict clusters → AllByRecursion (MovedAlone clusters) clusters
moved_alone [] free = tt
moved_alone (c ∷ clusters) free = (
  (λ q k. ap (λ b. writes_in c q || b) (unmoved c clusters free.0 q k) ∙ or_false (writes_in c q)),
  moved_later c clusters clusters free.0 (moved_alone clusters free.1),
)

agree_first : (m : LedgerMap) (all clusters : Stage) → AllByRecursion (MovedAlone all) clusters → AllByRecursion (Agree m (left_of m all) m) clusters
agree_first m all [] h = tt
agree_first m all (c ∷ clusters) h = (
  (λ q k.
      found_over (retain_keys m (writes_in c)) (left_of m all) q
      ∙ ap₂ or_else (found_kept m (writes_in c) q) (found_left all m q ∙ ap (λ b. cond (not b) (get m q) None) (h.0 q k))
      ∙ at (writes_in c q) (get m q)),
  agree_first m all clusters h.1,
)
  where
    at : (b : Bool) (o : Option Kept) → or_else (cond b o None) (cond (not b) o None) ≡ o
    at true o = or_none o
    at false o = refl

pub noted_cut : {K : Type 0} (step : Step) → IsFramed step → (note : Note K) → IsFramedNote note → (r : RunState) (clusters : Stage) → HasNoConflict clusters
    → noted_over step note (left_of r.entries clusters) (cut_from r.entries clusters) clusters ≡ noted_in_stage step note r clusters
noted_cut step laws note framed r clusters free =
    noted_cut_from step laws note framed r.entries (left_of r.entries clusters) r clusters free
    (agree_first r.entries clusters clusters (moved_alone clusters free))
