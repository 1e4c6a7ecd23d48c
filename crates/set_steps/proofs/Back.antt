-- Jobs that ran and came back are the runs of their clusters.
use Rattle.std.specs.FinMap.{get}
use Rattle.std.specs.List.{AllByRecursion, fold}
use Rattle.std.specs.Prelude.{Ok, IfOk, Result}
use Rattle.std.proofs.Common.{◌≡◌, ℕ, suc, Bool, false, List, [], ◌∷◌, ◌++◌, All, map, None, sym, ap, ap₂, subst, ◌∙◌}
use Rattle.std.proofs.lemmas.List.{append_assoc, append-nil}
use Rattle.std.proofs.lemmas.List.Elements.{All-from_recursion, recursion_from_All}
use Rattle.ledger_parts.specs.Shown.{is_read}
use Rattle.worker_runs.specs.Worked.{IsWorked}
use Rattle.stage_runs.specs.Maps.{Bytes, LedgerMap, laid_over}
use Rattle.stage_runs.specs.Transactions.{Step, IsFramed}
use Rattle.stage_runs.specs.declared.Extension.{Extension}
use Rattle.stage_runs.specs.Runs.{Cluster, Reported, RunState, start, writes_in, put_all_in, ended}
use Rattle.stage_runs.specs.Parts.{run_owned_all, own_back, owns_back}
use Rattle.ledger_parts.specs.Cut.{runs_over}
use Rattle.ledger_parts.proofs.Lemmas.{seen_run}
use Rattle.stage_runs.proofs.Lemmas.{owned_untouched}
use Rattle.change_log.specs.Log.{Changes}
use Rattle.set_steps.specs.State.{between, done_in, pending_of, reports_of, IsKeyed}
use Rattle.set_steps.specs.Job.{cluster_of, own_of, IsCut, IsRun, IsRunOn, AreDone, back, IsMovedOf}
use Rattle.set_steps.specs.declared.running.ClusterDone.{ClusterDone}
use Rattle.set_steps.specs.declared.job.Job.{Job}
use Rattle.xdr_core.specs.declared.error.NoMemory.{NoMemory}
use Rattle.set_steps.proofs.Moved.{kept_whole}

module _ (step : Step) (laws : IsFramed step) (logs : Bool) (lent : LedgerMap) where
  -- what the run of a part's cluster is
  ran : (x y : Job) (d : ClusterDone) → IsCut x → IsMovedOf lent (cluster_of x) → IsRun step logs lent x y → y.done ≡ Ok d
      → run_owned_all step lent (start (own_of x)) (cluster_of x) ≡ done_in (own_of y) d
  ran x y d cut moved run ok =
      let here : IsRunOn step logs lent (cluster_of x) (own_of x) (done_in (own_of y) d) x.log.items y.log.items =
      subst (λ (r : Result ClusterDone NoMemory). IfOk r (λ e. IsRunOn step logs lent (cluster_of x) (own_of x) (done_in (own_of y) e) x.log.items y.log.items)) ok run.run in
      sym (here.run ∙ seen_run step laws (is_read here.keys) lent (cluster_of x) (own_of x) here.reads moved)

  -- it changed nothing at other keys
  none_else : (x y : Job) (d : ClusterDone) → IsCut x → IsMovedOf lent (cluster_of x) → IsRun step logs lent x y → y.done ≡ Ok d
      → (q : Bytes) → writes_in (cluster_of y) q ≡ false → get (own_of y) q ≡ None
  none_else x y d cut moved run ok q w =
      let none : writes_in (cluster_of x) q ≡ false = ap (λ (c : Cluster). writes_in c q) (sym run.same) ∙ w in
      ap (λ (s : RunState). get s.entries q) (sym (ran x y d cut moved run ok)) ∙ owned_untouched step laws lent (cluster_of x) (start (own_of x)) q none ∙ cut.owned q none

  abbrev after : RunState → LedgerMap → List Extension → List Reported → RunState
  after s m p r = record { entries = m; pending = s.pending ++ p; results = s.results ++ r }

  one_back : (x y : Job) (d : ClusterDone) → IsCut x → IsMovedOf lent (cluster_of x) → IsRun step logs lent x y → y.done ≡ Ok d → (s : RunState)
      → own_back s (run_owned_all step lent (start (own_of x)) (cluster_of x)) ≡ after s (back s.entries y) d.pending.items d.reports
  one_back x y d cut moved run ok s =
      ap (own_back s) (ran x y d cut moved run ok)
      ∙ ap (λ (m : LedgerMap). after s (laid_over m s.entries) d.pending.items d.reports) (sym (kept_whole (own_of y) (cluster_of y) (none_else x y d cut moved run ok)))

  pub all_back : (i : ℕ) (xs ys : List Job) (ds : List ClusterDone) → IsWorked (λ _ x y. IsRun step logs lent x y) i xs ys → AllByRecursion IsCut xs
      → AllByRecursion (λ x. IsMovedOf lent (cluster_of x)) xs → AreDone ys ds → (s : RunState)
      → owns_back s (runs_over step lent (map own_of xs) (map cluster_of xs)) ≡ after s (fold back s.entries ys) (pending_of ds) (reports_of ds)
  all_back i [] [] [] w cut moved done s = ap₂ (λ (p : List Extension) (r : List Reported). let t : RunState = record { entries = s.entries; pending = p; results = r } in t) (sym (append-nil s.pending)) (sym (append-nil s.results))
  all_back i [] [] (d ∷ ds) w cut moved done s = absurd done
  all_back i [] (y ∷ ys) ds w cut moved done s = absurd w
  all_back i (x ∷ xs) [] ds w cut moved done s = absurd w
  all_back i (x ∷ xs) (y ∷ ys) [] w cut moved done s = absurd done
  all_back i (x ∷ xs) (y ∷ ys) (d ∷ ds) w cut moved done s =
      let one = after s (back s.entries y) d.pending.items d.reports in
      ap (λ (t : RunState). owns_back t (runs_over step lent (map own_of xs) (map cluster_of xs))) (one_back x y d cut.0 moved.0 w.0 done.0 s)
      ∙ all_back (suc i) xs ys ds w.1 cut.1 moved.1 done.1 one
      ∙ ap₂ (λ (p : List Extension) (r : List Reported). let t : RunState = record { entries = fold back (back s.entries y) ys; pending = p; results = r } in t)
      (append_assoc s.pending d.pending.items (pending_of ds)) (append_assoc s.results d.reports (reports_of ds))

  -- the map before the end of the stage, after all parts came back
  pub back_entries : (xs ys : List Job) (ds : List ClusterDone) → IsWorked (λ _ x y. IsRun step logs lent x y) 0 xs ys → All IsCut xs
      → AllByRecursion (λ x. IsMovedOf lent (cluster_of x)) xs → AreDone ys ds → (before : List Reported)
      → fold back lent ys ≡ (owns_back (between lent before) (runs_over step lent (map own_of xs) (map cluster_of xs))).entries
  back_entries xs ys ds w cut moved done before =
      ap (λ (s : RunState). s.entries) (sym (all_back 0 xs ys ds w (recursion_from_All IsCut xs cut) moved done (between lent before)))

  -- the end of the stage after all parts came back
  pub all_ended : (xs ys : List Job) (ds : List ClusterDone) → IsWorked (λ _ x y. IsRun step logs lent x y) 0 xs ys → All IsCut xs
      → AllByRecursion (λ x. IsMovedOf lent (cluster_of x)) xs → AreDone ys ds → (before : List Reported)
      → between (put_all_in (fold back lent ys) (pending_of ds)) (before ++ reports_of ds)
      ≡ ended (owns_back (between lent before) (runs_over step lent (map own_of xs) (map cluster_of xs)))
  all_ended xs ys ds w cut moved done before =
      ap ended (sym (all_back 0 xs ys ds w (recursion_from_All IsCut xs cut) moved done (between lent before)))

  each_keyed : (i : ℕ) (xs ys : List Job) (ds : List ClusterDone) → IsWorked (λ _ x y. IsRun step logs lent x y) i xs ys → AreDone ys ds → AllByRecursion IsKeyed ds
  each_keyed i xs [] [] w done = tt
  each_keyed i xs [] (d ∷ ds) w done = absurd done
  each_keyed i [] (y ∷ ys) ds w done = absurd w
  each_keyed i (x ∷ xs) (y ∷ ys) [] w done = absurd done
  each_keyed i (x ∷ xs) (y ∷ ys) (d ∷ ds) w done =
      (subst (λ (r : Result ClusterDone NoMemory). IfOk r IsKeyed) done.0 w.0.keyed, each_keyed (suc i) xs ys ds w.1 done.1)

  pub all_keyed : (i : ℕ) (xs ys : List Job) (ds : List ClusterDone) → IsWorked (λ _ x y. IsRun step logs lent x y) i xs ys → AreDone ys ds → All IsKeyed ds
  all_keyed i xs ys ds w done = All-from_recursion IsKeyed ds (each_keyed i xs ys ds w done)

-- the same run, of entries that are told in another way
pub run_on_same : {step : Step} {logs : Bool} {lent : LedgerMap} {cluster : Cluster} {own own' : LedgerMap} {ran : RunState}
    {old new : List Changes} → own ≡ own'
    → IsRunOn step logs lent cluster own ran old new → IsRunOn step logs lent cluster own' ran old new
run_on_same {step} {logs} {lent} {cluster} {own} {own'} {ran} {old} {new} e run =
    subst (λ (m : LedgerMap). IsRunOn step logs lent cluster m ran old new) e run

-- one more job that is done
pub done_more : (js : List Job) (ds : List ClusterDone) (j : Job) (d : ClusterDone) → AreDone js ds → j.done ≡ Ok d → AreDone (js ++ j ∷ []) (ds ++ d ∷ [])
done_more [] [] j d h e = (e, tt)
done_more [] (x ∷ ds) j d h e = absurd h
done_more (k ∷ js) [] j d h e = absurd h
done_more (k ∷ js) (x ∷ ds) j d h e = (h.0, done_more js ds j d h.1 e)

-- what holds of each cluster holds of each job's
pub of_clusters : (P : Cluster → Type 0) (xs : List Job) → AllByRecursion P (map cluster_of xs) → AllByRecursion (λ x. P (cluster_of x)) xs
of_clusters P [] h = tt
of_clusters P (x ∷ xs) h = (h.0, of_clusters P xs h.1)
