-- The run and the log of parts that were cut out of a map are those of the stage.
use Rattle.std.specs.Prelude.{OnOk, IfOk, Result}
use Rattle.std.proofs.Common.{◌≡◌, Bool, List, Option, ap, ap₂, subst, ◌∙◌}
use Rattle.std.proofs.lemmas.Result.{IfOk-weaker}
use Rattle.xdr_core.specs.declared.error.NoMemory.{NoMemory}
use Rattle.stage_runs.specs.Maps.{LedgerMap}
use Rattle.stage_runs.specs.Transactions.{Step, IsFramed}
use Rattle.stage_runs.specs.Runs.{Reported, RunState, Stage, HasNoConflict, ended, run_clusters, run_stage}
use Rattle.stage_runs.specs.Parts.{owns_back}
use Rattle.ledger_parts.specs.Cut.{left_of, cut_from, runs_over}
use Rattle.ledger_parts.specs.Notes.{noted_over, noted_in_stage}
use Rattle.ledger_parts.proofs.Lemmas.{cut_clusters, noted_cut}
use Rattle.change_log.specs.declared.log.LoggedStage.{LoggedStage}
use Rattle.set_steps.specs.LoggedLists.{WrittenSides, written_sides, IsStageLog}
use Rattle.set_steps.specs.State.{between}
use Rattle.set_steps.proofs.Noting.{sides_framed}

module _ (step : Step) (laws : IsFramed step) (old lent : LedgerMap) (before : List Reported) (cs : Stage) (free : HasNoConflict cs)
    (owns : List LedgerMap) (clusters : Stage) (lent_is : lent ≡ left_of old cs) (owns_are : owns ≡ cut_from old cs) (clusters_are : clusters ≡ cs) where
  -- the clusters ran on their parts
  clusters_as_cut : owns_back (between lent before) (runs_over step lent owns clusters) ≡ run_clusters step (between old before) cs
  clusters_as_cut =
      ap₂ (λ (os : List LedgerMap) (ks : Stage). owns_back (between lent before) (runs_over step lent os ks)) owns_are clusters_are
      ∙ ap (λ (m : LedgerMap). owns_back (between m before) (runs_over step m (cut_from old cs) cs)) lent_is
      ∙ cut_clusters step laws (between old before) cs free

  -- what they had at their read-write keys, and what they left there
  sides_as_cut : noted_over step written_sides lent owns clusters ≡ noted_in_stage step written_sides (between old before) cs
  sides_as_cut =
      ap₂ (λ (os : List LedgerMap) (ks : Stage). noted_over step written_sides lent os ks) owns_are clusters_are
      ∙ ap (λ (m : LedgerMap). noted_over step written_sides m (cut_from old cs) cs) lent_is
      ∙ noted_cut step laws written_sides sides_framed (between old before) cs free

  pub ended_as_cut : {A : Type 0} (result : Result A NoMemory) (after : RunState)
      → OnOk result (after ≡ ended (owns_back (between lent before) (runs_over step lent owns clusters)))
      → OnOk result (after ≡ run_stage step (between old before) cs)
  ended_as_cut {A} result after h =
      IfOk-weaker result (λ _. after ≡ ended (owns_back (between lent before) (runs_over step lent owns clusters)))
      (λ _. after ≡ run_stage step (between old before) cs) (λ _ e. e ∙ ap ended clusters_as_cut) h

module _ (step : Step) (laws : IsFramed step) (logs : Bool) (old lent : LedgerMap) (before : List Reported) (cs : Stage) (free : HasNoConflict cs)
    (owns : List LedgerMap) (clusters : Stage) (lent_is : lent ≡ left_of old cs) (owns_are : owns ≡ cut_from old cs) (clusters_are : clusters ≡ cs) where
  pub logged_as_cut : (result : Result (Option LoggedStage) NoMemory) (n : LedgerMap)
      → IfOk result (IsStageLog logs (noted_over step written_sides lent owns clusters)
      (owns_back (between lent before) (runs_over step lent owns clusters)).entries n)
      → IfOk result (IsStageLog logs (noted_in_stage step written_sides (between old before) cs) (run_clusters step (between old before) cs).entries n)
  logged_as_cut result n h =
      subst (λ (tss : List (List WrittenSides)). IfOk result (IsStageLog logs tss (run_clusters step (between old before) cs).entries n))
      (sides_as_cut step laws old lent before cs free owns clusters lent_is owns_are clusters_are)
      (subst (λ (s : RunState). IfOk result (IsStageLog logs (noted_over step written_sides lent owns clusters) s.entries n))
      (clusters_as_cut step laws old lent before cs free owns clusters lent_is owns_are clusters_are) h)
