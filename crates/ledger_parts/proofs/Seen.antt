-- A cluster that sees its own entries over what is lent, and parts that are cut one after the other.
use Rattle.std.specs.FinMap.{get, entries, retain_keys}
use Rattle.std.specs.List.{AllByRecursion}
use Rattle.std.proofs.Common.{◌≡◌, Bool, true, false, not, ◌||◌, cond, List, [], ◌∷◌, Option, None, refl, sym, ap, ap₂, ◌∙◌}
use Rattle.stage_runs.specs.Maps.{Bytes, Kept, LedgerMap, laid_over}
use Rattle.stage_runs.specs.Transactions.{Envelope, Effect, Step, declares, IsFramed}
use Rattle.stage_runs.specs.Runs.{Cluster, Stage, RunState, before, after, start, run_transaction, run_all, run_clusters, run_stage, ended, writes_in, declares_in, AreApart, HasNoConflict}
use Rattle.stage_runs.specs.Parts.{run_owned_all, own_parts, lent_of, is_moved, owns_back, run_owned_parts}
use Rattle.ledger_parts.specs.Sees.{found_shown_with}
use Rattle.ledger_parts.specs.Shown.{shown_step, shown_with, PassesRead}
use Rattle.ledger_parts.specs.Cut.{without, left_of, cut_from, runs_over}
use Rattle.stage_runs.proofs.Lemmas.{apart_unwritten, cases, found_kept, found_over, left_true, moved_run, never, or_else, right_true, same, write_declared}

module _ (step : Step) (laws : IsFramed step) (reads : Bytes → Bool) (lent : LedgerMap) where
  -- one transaction sees enough
  seen_tx : (tx : Envelope) (own : LedgerMap)
      → ((q : Bytes) → declares tx q ≡ true → reads q ≡ false → get lent q ≡ None)
      → step (shown_with reads lent own) tx ≡ step (laid_over own lent) tx
  seen_tx tx own enough =
      laws.framed (shown_with reads lent own) (laid_over own lent) tx
      (λ q d. found_shown_with reads lent own q ∙ at q (reads q) refl d ∙ sym (found_over own lent q))
    where
      at : (q : Bytes) (b : Bool) → reads q ≡ b → declares tx q ≡ true → or_else (get own q) (cond b (get lent q) None) ≡ or_else (get own q) (get lent q)
      at q true e d = refl
      at q false e d = ap (or_else (get own q)) (sym (enough q d e))

  seen_all : (cluster : Cluster) (r : RunState)
      → ((q : Bytes) → declares_in cluster q ≡ true → reads q ≡ false → get lent q ≡ None)
      → run_all (shown_step (shown_with reads lent) step) r cluster ≡ run_owned_all step lent r cluster
  seen_all [] r enough = refl
  seen_all (tx ∷ cluster) r enough =
      seen_all cluster (run_transaction (shown_step (shown_with reads lent) step) r tx) (λ q d e. enough q (right_true (declares tx q) (declares_in cluster q) d) e)
      ∙ ap (λ (s : RunState). run_owned_all step lent s cluster)
      (ap (λ (x : Effect). after x (before tx r)) (seen_tx tx (before tx r).entries (λ q d e. enough q (left_true (declares tx q) (declares_in cluster q) d) e)))

  pub seen_run : (cluster : Cluster) (own : LedgerMap) → PassesRead reads cluster → ((q : Bytes) → writes_in cluster q ≡ true → get lent q ≡ None)
      → run_all (shown_step (shown_with reads lent) step) (start own) cluster ≡ run_owned_all step lent (start own) cluster
  seen_run cluster own passes moved =
      seen_all cluster (start own) (λ q d e. cases (writes_in cluster q) (λ w. moved q w) (λ w. never (passes q d w) e))

-- ---- parts that are cut one after the other

pub found_left : (clusters : Stage) (m : LedgerMap) (q : Bytes) → get (left_of m clusters) q ≡ cond (not (is_moved clusters q)) (get m q) None
found_left [] m q = refl
found_left (c ∷ clusters) m q =
    found_left clusters (without m c) q
    ∙ ap (λ (o : Option Kept). cond (not (is_moved clusters q)) o None) (found_kept m (λ p. not (writes_in c p)) q)
    ∙ at (writes_in c q) (is_moved clusters q) (get m q)
  where
    at : (a b : Bool) (o : Option Kept) → cond (not b) (cond (not a) o None) None ≡ cond (not (a || b)) o None
    at true true o = refl
    at true false o = refl
    at false true o = refl
    at false false o = refl

left_is : (m : LedgerMap) (clusters : Stage) → left_of m clusters ≡ lent_of m clusters
left_is m clusters = same _ _ (λ q. found_left clusters m q ∙ sym (found_kept m (λ p. not (is_moved clusters p)) q))

-- the two maps have the same at what each of the clusters declares read-write
abbrev AgreeFor : LedgerMap → LedgerMap → Stage → Type 0
AgreeFor m n clusters = AllByRecursion (λ c. (q : Bytes) → writes_in c q ≡ true → get m q ≡ get n q) clusters

kept_same : (m n : LedgerMap) (c : Cluster) → ((q : Bytes) → writes_in c q ≡ true → get m q ≡ get n q) → retain_keys m (writes_in c) ≡ retain_keys n (writes_in c)
kept_same m n c e = same _ _ (λ q. found_kept m (writes_in c) q ∙ at q (writes_in c q) refl ∙ sym (found_kept n (writes_in c) q))
  where
    at : (q : Bytes) (b : Bool) → writes_in c q ≡ b → cond b (get m q) None ≡ cond b (get n q) None
    at q true w = e q w
    at q false w = refl

still_agree : (c : Cluster) (m n : LedgerMap) (clusters : Stage) → AllByRecursion (AreApart c) clusters → AgreeFor m n clusters → AgreeFor (without m c) n clusters
still_agree c m n [] apart h = tt
still_agree c m n (d ∷ clusters) apart h = (
  (λ q w.
      found_kept m (λ p. not (writes_in c p)) q
      ∙ ap (λ b. cond (not b) (get m q) None) (apart_unwritten c d q apart.0 (write_declared d q w))
      ∙ h.0 q w),
  still_agree c m n clusters apart.1 h.1,
)

runs_cut : (step : Step) (lent m n : LedgerMap) (clusters : Stage) → HasNoConflict clusters → AgreeFor m n clusters
    → runs_over step lent (cut_from m clusters) clusters ≡ run_owned_parts step lent (own_parts n clusters)
runs_cut step lent m n [] free e = refl
runs_cut step lent m n (c ∷ clusters) free e =
    ap₂ (λ (o : LedgerMap) (rs : List RunState). run_owned_all step lent (start o) c ∷ rs) (kept_same m n c e.0)
    (runs_cut step lent (without m c) n clusters free.1 (still_agree c m n clusters free.0 e.1))

agree_self : (m : LedgerMap) (clusters : Stage) → AgreeFor m m clusters
agree_self m [] = tt
agree_self m (c ∷ clusters) = ((λ q w. refl), agree_self m clusters)

-- the clusters on their parts, before the stage's end
pub cut_clusters : (step : Step) → IsFramed step → (r : RunState) (clusters : Stage) → HasNoConflict clusters
    → owns_back (record r { entries = left_of r.entries clusters }) (runs_over step (left_of r.entries clusters) (cut_from r.entries clusters) clusters)
    ≡ run_clusters step r clusters
cut_clusters step laws r clusters free =
    ap (λ (m : LedgerMap). owns_back (record r { entries = m }) (runs_over step m (cut_from r.entries clusters) clusters)) (left_is r.entries clusters)
    ∙ ap (λ (rs : List RunState). owns_back (record r { entries = lent_of r.entries clusters }) rs)
    (runs_cut step (lent_of r.entries clusters) r.entries r.entries clusters free (agree_self r.entries clusters))
    ∙ moved_run step laws r clusters free

pub cut_run : (step : Step) → IsFramed step → (r : RunState) (clusters : Stage) → HasNoConflict clusters
    → ended (owns_back (record r { entries = left_of r.entries clusters }) (runs_over step (left_of r.entries clusters) (cut_from r.entries clusters) clusters))
    ≡ run_stage step r clusters
cut_run step laws r clusters free = ap ended (cut_clusters step laws r clusters free)
