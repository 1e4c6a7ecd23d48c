-- The log of stages, played on the map before them, gives the map after them.
use Rattle.std.specs.FinMap.{get, retain_keys}
use Rattle.std.specs.List.{AllByRecursion, flat_map}
use Rattle.std.specs.Prelude.{◌==◌, ◌&&◌, Ok, Err, Result}
use Rattle.std.proofs.Common.{◌≡◌, ℕ, suc, ◌+◌, ◌<◌, ◌^◌, Bool, true, false, cond, List, [], ◌∷◌, ◌++◌, length, map, Option, Some, None, refl, sym, ap, ap₂, subst, ◌∙◌, append_assoc, arith}
use Rattle.std.proofs.lemmas.Bool.{eq-eqb}
use Rattle.xdr_spec.specs.Format.{list, number32, number64}
use Rattle.ledger_types.specs.declared.header.Header.{Header}
use Rattle.ledger_spec.specs.LedgerMap.{IsLedgerMap}
use Rattle.ledger_spec.proofs.Lemmas.{kept_at}
use Rattle.stage_runs.specs.Maps.{Bytes, LedgerMap}
use Rattle.stage_runs.specs.Transactions.{Envelope, Step, IsFramed, writes}
use Rattle.stage_runs.specs.Runs.{Cluster, Stage, RunState, start, run_transaction, run_all, run_next_cluster, run_clusters, run_stage, run_set}
use Rattle.stage_runs.proofs.Lemmas.{cases, found_kept, transaction_untouched}
use Rattle.ledger_parts.specs.Notes.{noted_in, noted_in_stage}
use Rattle.change_log.specs.Log.{Changes, changes_format, stage_format, log_format}
use Rattle.change_log.specs.Groups.{group_at, changes_of, changes}
use Rattle.change_log.specs.Fits.{AreKept}
use Rattle.change_log.specs.Play.{Placed, played_list, played_all, played, placed_from, lists_from, lists_of, or_at, with_header, header_after}
use Rattle.change_log.specs.declared.error.ListIndex.{ListIndex}
use Rattle.change_log.specs.declared.log.LoggedStage.{LoggedStage}
use Rattle.change_log.specs.declared.log.Log.{Log}
use Rattle.change_log.proofs.Lemmas.{by_key, changes_fit, lead, same_none_at}
use Rattle.apply_spec.specs.Runs.{new_header}
use Rattle.set_steps.proofs.Lists.{recursion_append}
use Rattle.set_steps.specs.Logged.{changed_by, logged_stage, logged_stages}
use Rattle.set_steps.specs.LoggedLists.{WrittenSides, written_sides, list_of, all_lists, list_if, IsSound, IsWritable, IsStageLog, AreStageLogs, Lead}

-- ---- lists that lead from one map to the next

abbrev pub Leads : LedgerMap → List Changes → LedgerMap → Type 0
Leads m [] n = m ≡ n
Leads m (list ∷ lists) n = (k : LedgerMap) × (played_list false m list ≡ Some k) × Leads k lists n

leads_both : (m k n : LedgerMap) (lists more : List Changes) → Leads m lists k → Leads k more n → Leads m (lists ++ more) n
leads_both m k n [] more h g = subst (λ (x : LedgerMap). Leads x more n) (sym h) g
leads_both m k n (list ∷ lists) more h g = (h.0, h.1, leads_both h.0 k n lists more h.2 g)

leads_all : (m n : LedgerMap) (lists : List Changes) (stage index : ℕ) (rest : List Placed) → Leads m lists n
    → played_all false m (placed_from stage index lists ++ rest) ≡ played_all false n rest
leads_all m n [] stage index rest h = ap (λ (x : LedgerMap). played_all false x rest) h
leads_all m n (list ∷ lists) stage index rest h =
    let at : ListIndex = record { stage = stage; list = index } in
    ap (or_at at (λ (x : LedgerMap). played_all false x (placed_from stage (suc index) lists ++ rest))) h.1
    ∙ leads_all h.0 n lists stage (suc index) rest h.2

-- the lists of a stage of a log
abbrev pub lists_in : LoggedStage → List Changes
lists_in stage = stage.transactions ++ stage.end ∷ []

ok_is : (m k : LedgerMap) → ◌≡◌ {A = Result LedgerMap ListIndex} (Ok m) (Ok k) → m ≡ k
ok_is m k e = cc

err_ok : (at : ListIndex) (k : LedgerMap) → ◌≡◌ {A = Result LedgerMap ListIndex} (Err at) (Ok k) → ⊥
err_ok at k e = cc

played_both : (m k : LedgerMap) (xs ys : List Placed) → played_all false m xs ≡ Ok k
    → played_all false m (xs ++ ys) ≡ played_all false k ys
played_both m k [] ys e = ap (λ (x : LedgerMap). played_all false x ys) (ok_is m k e)
played_both m k (x ∷ xs) ys e = at (λ n h. played_both n k xs ys h) (played_list false m x.list) e
  where
    at : ((n : LedgerMap) → played_all false n xs ≡ Ok k → played_all false n (xs ++ ys) ≡ played_all false k ys)
        → (o : Option LedgerMap) → or_at x.at (λ (n : LedgerMap). played_all false n xs) o ≡ Ok k
        → or_at x.at (λ (n : LedgerMap). played_all false n (xs ++ ys)) o ≡ played_all false k ys
    at rest None e = absurd (err_ok x.at k e)
    at rest (Some n) e = rest n e

lists_push : (number j : ℕ) (log : List LoggedStage) (t : LoggedStage) → j ≡ number + length log
    → lists_from number (log ++ t ∷ []) ≡ lists_from number log ++ (placed_from j 0 (lists_in t) ++ [])
lists_push number j [] t e =
    let same : number ≡ j = omega (arith, e) in
    ap (λ (i : ℕ). placed_from i 0 (lists_in t) ++ []) same
lists_push number j (s ∷ log) t e =
    let more : j ≡ suc number + length log = omega (arith, e) in
    ap (λ (l : List Placed). placed_from number 0 (lists_in s) ++ l) (lists_push (suc number) j log t more)
    ∙ sym (append_assoc (placed_from number 0 (lists_in s)) (lists_from (suc number) log) (placed_from j 0 (lists_in t) ++ []))

lead_last : (m k n : LedgerMap) (log : List LoggedStage) (t : LoggedStage) → Lead m log k → Leads k (lists_in t) n
    → Lead m (log ++ t ∷ []) n
lead_last m k n log t first later number =
    ap (played_all false m) (lists_push number (number + length log) log t refl)
    ∙ played_both m k (lists_from number log) (placed_from (number + length log) 0 (lists_in t) ++ []) (first number)
    ∙ leads_all k n (lists_in t) (number + length log) 0 [] later

-- ---- a transaction

module _ (step : Step) (laws : IsFramed step) where
  -- what it changes is at its read-write keys
  same_list : (r : RunState) (tx : Envelope)
      → list_of (written_sides r.entries (run_transaction step r tx).entries tx) ≡ changes r.entries (run_transaction step r tx).entries
  same_list r tx = ap (flat_map changes_of) (by_key (part m) (part n) m n (λ q. at q (writes tx q) refl))
    where
      m : LedgerMap
      m = r.entries

      n : LedgerMap
      n = (run_transaction step r tx).entries

      part : LedgerMap → LedgerMap
      part x = retain_keys x (writes tx)

      at : (q : Bytes) (b : Bool) → writes tx q ≡ b → group_at (get (part m) q) (get (part n) q) ≡ group_at (get m q) (get n q)
      at q true w =
          ap₂ group_at (found_kept m (writes tx) q ∙ ap (λ (b : Bool). cond b (get m q) None) w)
          (found_kept n (writes tx) q ∙ ap (λ (b : Bool). cond b (get n q) None) w)
      at q false w =
          ap₂ group_at (found_kept m (writes tx) q ∙ ap (λ (b : Bool). cond b (get m q) None) w)
          (found_kept n (writes tx) q ∙ ap (λ (b : Bool). cond b (get n q) None) w)
          ∙ sym (same_none_at (get m q) (get n q) (sym (transaction_untouched step laws r tx q w)))

  -- each entry is at its key after it, too
  kept_after : (r : RunState) (tx : Envelope) → AreKept r.entries
      → IsSound (written_sides r.entries (run_transaction step r tx).entries tx) → AreKept (run_transaction step r tx).entries
  kept_after r tx before sound q kept e =
      cases (writes tx q)
      (λ w. sound.after q kept
      (found_kept (run_transaction step r tx).entries (writes tx) q
      ∙ ap (λ (b : Bool). cond b (get (run_transaction step r tx).entries q) None) w ∙ e))
      (λ w. before q kept (sym (transaction_untouched step laws r tx q w) ∙ e))

  -- ---- a cluster, and a stage

  cluster_leads : (cluster : Cluster) (r : RunState) → AreKept r.entries → AllByRecursion IsSound (noted_in step written_sides r cluster)
      → AreKept (run_all step r cluster).entries
      × Leads r.entries (map list_of (noted_in step written_sides r cluster)) (run_all step r cluster).entries
  cluster_leads [] r kept sound = (kept, refl)
  cluster_leads (tx ∷ cluster) r kept sound =
      let s : RunState = run_transaction step r tx in
      let next : AreKept s.entries = kept_after r tx kept sound.0 in
      let rest = cluster_leads cluster s next sound.1 in (
        rest.0,
        (s.entries, ap (played_list false r.entries) (same_list r tx) ∙ lead r.entries s.entries kept next, rest.1),
      )

  clusters_lead : (clusters : Stage) (r : RunState) → AreKept r.entries
      → AllByRecursion (λ (ts : List WrittenSides). AllByRecursion IsSound ts) (noted_in_stage step written_sides r clusters)
      → AreKept (run_clusters step r clusters).entries
      × Leads r.entries (all_lists (noted_in_stage step written_sides r clusters)) (run_clusters step r clusters).entries
  clusters_lead [] r kept sound = (kept, refl)
  clusters_lead (c ∷ clusters) r kept sound =
      let s : RunState = run_next_cluster step r c in
      let here = cluster_leads c (start r.entries) kept sound.0 in
      let rest = clusters_lead clusters s here.0 sound.1 in (
        rest.0,
        leads_both r.entries s.entries (run_clusters step r (c ∷ clusters)).entries
            (map list_of (noted_in step written_sides (start r.entries) c)) (all_lists (noted_in_stage step written_sides s clusters)) here.1 rest.1,
      )

  -- ---- what is at read-write keys, as a log has it

  same_cluster : (cluster : Cluster) (r : RunState) → map list_of (noted_in step written_sides r cluster) ≡ noted_in step changed_by r cluster
  same_cluster [] r = refl
  same_cluster (tx ∷ cluster) r =
      ap₂ (λ (l : Changes) (ls : List Changes). l ∷ ls) (same_list r tx) (same_cluster cluster (run_transaction step r tx))

  same_clusters : (clusters : Stage) (r : RunState)
      → all_lists (noted_in_stage step written_sides r clusters)
      ≡ flat_map (λ (lists : List Changes). lists) (noted_in_stage step changed_by r clusters)
  same_clusters [] r = refl
  same_clusters (c ∷ clusters) r =
      ap₂ (λ (l k : List Changes). l ++ k) (same_cluster c (start r.entries)) (same_clusters clusters (run_next_cluster step r c))

  abbrev sides_stage : RunState → Stage → LoggedStage
  sides_stage r clusters = record {
    transactions = all_lists (noted_in_stage step written_sides r clusters);
    end = changes (run_clusters step r clusters).entries (run_stage step r clusters).entries;
  }

  same_stage : (r : RunState) (clusters : Stage) → sides_stage r clusters ≡ logged_stage step r clusters
  same_stage r clusters =
      ap
      (λ (lists : List Changes).
      let s : LoggedStage = record {
        transactions = lists;
        end = changes (run_clusters step r clusters).entries (run_stage step r clusters).entries;
      } in s)
      (same_clusters clusters r)

  -- ---- its format

  each_fits : (ts : List WrittenSides) → AllByRecursion IsSound ts → AllByRecursion changes_format.fits (map list_of ts)
  unfolding list
  each_fits [] sound = tt
  each_fits (t ∷ ts) sound =
      let few : length (list_of t) < 2 ^ 32 = sound.0.few in
      ((omega (arith, few), few, changes_fit t.before t.after sound.0.before sound.0.after), each_fits ts sound.1)

  fit_both : (xs ys : List Changes) → AllByRecursion changes_format.fits xs → AllByRecursion changes_format.fits ys
      → AllByRecursion changes_format.fits (xs ++ ys)
  fit_both [] ys h g = g
  fit_both (x ∷ xs) ys h g = (h.0, fit_both xs ys h.1 g)

  all_fit : (tss : List (List WrittenSides)) → AllByRecursion (λ (ts : List WrittenSides). AllByRecursion IsSound ts) tss
      → AllByRecursion changes_format.fits (all_lists tss)
  all_fit [] sound = tt
  all_fit (ts ∷ tss) sound = fit_both (map list_of ts) (all_lists tss) (each_fits ts sound.0) (all_fit tss sound.1)

  stage_fits : (tss : List (List WrittenSides)) (m n : LedgerMap) → AllByRecursion (λ (ts : List WrittenSides). AllByRecursion IsSound ts) tss
      → IsWritable m n → length (all_lists tss) < 2 ^ 32
      → stage_format.fits (record { transactions = all_lists tss; end = changes m n })
  unfolding stage_format list
  stage_fits tss m n sound end few =
      let short : length (changes m n) < 2 ^ 32 = end.few in
      ((omega (arith, few), few, all_fit tss sound), (omega (arith, short), short, changes_fit m n end.before end.after))

  -- ---- a stage more

  stage_leads : (r : RunState) (clusters : Stage) → AreKept r.entries
      → AllByRecursion (λ (ts : List WrittenSides). AllByRecursion IsSound ts) (noted_in_stage step written_sides r clusters)
      → IsWritable (run_clusters step r clusters).entries (run_stage step r clusters).entries
      → Leads r.entries (lists_in (sides_stage r clusters)) (run_stage step r clusters).entries
  stage_leads r clusters kept sound end =
      let m : LedgerMap = (run_clusters step r clusters).entries in
      let n : LedgerMap = (run_stage step r clusters).entries in
      leads_both r.entries m n (all_lists (noted_in_stage step written_sides r clusters)) (changes m n ∷ [])
      (clusters_lead clusters r kept sound).1 (n, lead m n end.before end.after, refl)

  logged_push : (r : RunState) (stages : List Stage) (c : Stage)
      → logged_stages step r (stages ++ c ∷ []) ≡ logged_stages step r stages ++ logged_stage step (run_set step r stages) c ∷ []
  logged_push r [] c = refl
  logged_push r (d ∷ stages) c = ap (λ (l : List LoggedStage). logged_stage step r d ∷ l) (logged_push (run_stage step r d) stages c)

  -- if no log is kept, there is none
  more_unlogged : (r s : RunState) (stages : List Stage) (c : Stage) (n : LedgerMap) (log : List LoggedStage)
      (logged : Option LoggedStage) → AreStageLogs false step r stages s.entries log
      → IsStageLog false (noted_in_stage step written_sides s c) (run_clusters step s c).entries n logged
      → AreStageLogs false step r (stages ++ c ∷ []) n (log ++ list_if logged)
  more_unlogged r s stages c n log logged so_far one =
      let none : log ++ list_if logged ≡ [] =
      ap₂ (λ (l : List LoggedStage) (o : Option LoggedStage). l ++ list_if o) so_far.lists one.stage in
      record {
        lists = none;
        fit = subst (AllByRecursion stage_format.fits) (sym none) tt;
        lead = λ e. absurd (never_true e);
      }
    where
      never_true : false ≡ true → ⊥
      never_true e = cc

  more_logged : (r s : RunState) (stages : List Stage) (c : Stage) (log : List LoggedStage) (logged : Option LoggedStage)
      → s ≡ run_set step r stages → AreKept s.entries → AreStageLogs true step r stages s.entries log
      → IsStageLog true (noted_in_stage step written_sides s c) (run_clusters step s c).entries (run_stage step s c).entries logged
      → AreStageLogs true step r (stages ++ c ∷ []) (run_stage step s c).entries (log ++ list_if logged)
  more_logged r s stages c log logged is kept so_far one =
      let t : LoggedStage = sides_stage s c in
      let n : LedgerMap = (run_stage step s c).entries in
      let pushed : log ++ list_if logged ≡ log ++ t ∷ [] = ap (λ (o : Option LoggedStage). log ++ list_if o) one.stage in
      record {
        lists = pushed
            ∙ ap (λ (l : List LoggedStage). l ++ t ∷ []) so_far.lists
            ∙ ap (λ (x : LoggedStage). logged_stages step r stages ++ x ∷ []) (same_stage s c)
            ∙ ap (λ (x : RunState). logged_stages step r stages ++ logged_stage step x c ∷ []) is
            ∙ sym (logged_push r stages c);
        fit = subst (AllByRecursion stage_format.fits) (sym pushed)
            (recursion_append stage_format.fits log (t ∷ []) so_far.fit (
              stage_fits (noted_in_stage step written_sides s c) (run_clusters step s c).entries n (one.sound refl) (one.end refl)
                  (one.few refl),
              tt,
            ));
        lead = λ e. subst (λ (l : List LoggedStage). Lead r.entries l n) (sym pushed)
            (lead_last r.entries s.entries n log t (so_far.lead refl) (stage_leads s c kept (one.sound refl) (one.end refl)));
      }

  more_by : (logs : Bool) (r s : RunState) (stages : List Stage) (c : Stage) (log : List LoggedStage) (logged : Option LoggedStage)
      → s ≡ run_set step r stages → (logs ≡ true → AreKept s.entries) → AreStageLogs logs step r stages s.entries log
      → IsStageLog logs (noted_in_stage step written_sides s c) (run_clusters step s c).entries (run_stage step s c).entries logged
      → AreStageLogs logs step r (stages ++ c ∷ []) (run_stage step s c).entries (log ++ list_if logged)
  more_by true r s stages c log logged is kept so_far one = more_logged r s stages c log logged is (kept refl) so_far one
  more_by false r s stages c log logged is kept so_far one =
      more_unlogged r s stages c (run_stage step s c).entries log logged so_far one

  -- one stage more that ran
  pub stages_more : (logs : Bool) (r s : RunState) (stages : List Stage) (c : Stage) (n : LedgerMap) (log : List LoggedStage)
      (logged : Option LoggedStage) → s ≡ run_set step r stages → n ≡ (run_stage step s c).entries
      → (logs ≡ true → AreKept s.entries) → AreStageLogs logs step r stages s.entries log
      → IsStageLog logs (noted_in_stage step written_sides s c) (run_clusters step s c).entries n logged
      → AreStageLogs logs step r (stages ++ c ∷ []) n (log ++ list_if logged)
  stages_more logs r s stages c n log logged is put kept so_far one =
      subst (λ (x : LedgerMap). AreStageLogs logs step r (stages ++ c ∷ []) x (log ++ list_if logged)) (sym put)
      (more_by logs r s stages c log logged is kept so_far
      (subst (λ (x : LedgerMap). IsStageLog logs (noted_in_stage step written_sides s c) (run_clusters step s c).entries x logged) put one))

-- no stage has run yet
pub stages_none : (logs : Bool) (step : Step) (r : RunState) → AreStageLogs logs step r [] r.entries []
stages_none true step r = record { lists = refl; fit = tt; lead = λ e number. refl }
stages_none false step r = record { lists = refl; fit = tt; lead = λ e number. refl }

-- the whole log
module _ (header : Header) (close_time : ℕ) where
  -- played on a ledger with the header that it names
  pub log_leads : (log : Log) (m n : LedgerMap) → log.old_seq ≡ header.seq → log.old_close_time ≡ header.close_time
      → log.new_close_time ≡ close_time → Lead m log.stages n → played false log header m ≡ Ok (new_header header close_time, n)
  log_leads log m n seq old new leads =
      ap
      (λ (b : Bool). cond b (with_header (header_after false log header) (played_all false m (lists_of log))) (Err None))
      (both (header.seq == log.old_seq) (header.close_time == log.old_close_time)
      (eq-eqb header.seq log.old_seq (sym seq)) (eq-eqb header.close_time log.old_close_time (sym old)))
      ∙ ap (λ (x : Result LedgerMap ListIndex). with_header (header_after false log header) x) (leads 0)
      ∙ ap₂ (λ (s t : ℕ). let h : Header = record header { seq = s + 1; close_time = t } in let x : Result (Header × LedgerMap) (Option ListIndex) = Ok (h, n) in x) seq new
    where
      both : (a b : Bool) → a ≡ true → b ≡ true → (a && b) ≡ true
      both true b e f = f
      both false b e f = e

-- a log that can be written
pub log_fits : (log : Log) → log.old_seq < 2 ^ 32 → log.old_close_time < 2 ^ 64 → log.new_close_time < 2 ^ 64
    → length log.stages < 2 ^ 32 → AllByRecursion stage_format.fits log.stages → log_format.fits log
unfolding log_format list number32 number64
log_fits log seq old new few fit = (seq, (old, (new, (omega (arith, few), few, fit))))

-- a ledger's map has each entry at its key
pub all_kept : (m : LedgerMap) → IsLedgerMap m → AreKept m
all_kept m is q kept e = kept_at m q kept is e
