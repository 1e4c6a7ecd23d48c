-- The first stage of a set with a conflict.
use Rattle.std.specs.List.{AllByRecursion, slice_get}
use Rattle.std.specs.Option.{option_map}
use Rattle.std.proofs.Common.{◌≡◌, ℕ, zero, suc, ◌<◌, List, [], ◌∷◌, Some, length, get_or, take, map, refl, sym, ap, subst, ◌∙◌, arith}
use Rattle.std.proofs.lemmas.Option.{slice_get-map, slice_get_read}
use Rattle.std.proofs.lemmas.Simd.{map-map}
use Rattle.tx_xdr.specs.declared.set.Stage.{Stage as SetOfClusters}
use Rattle.stage_runs.specs.Runs.{clusters_in, HasNoConflict}
use Rattle.stage_runs.specs.Conflicts.{IsLeastConflict, IsFirstConflict}
use Rattle.set_steps.specs.declared.stages.SetStage.{SetStage}
use Rattle.set_steps.specs.Stages.{stage_of, clusters_of}

earlier_free : {A B : Type 0} (P : B → Type 0) (f : A → B) (xs : List A) (i : ℕ) → AllByRecursion P (map f (take i xs))
    → (j : ℕ) (y : B) → j < i → slice_get (map f xs) j ≡ Some y → P y
earlier_free P f [] i h j y lt e = absurd cc
earlier_free P f (x ∷ xs) zero h j y lt e = absurd (omega arith)
earlier_free P f (x ∷ xs) (suc i) h zero y lt e = let same : f x ≡ y = cc in subst P same h.0
earlier_free P f (x ∷ xs) (suc i) h (suc j) y lt e = earlier_free P f xs i h.1 j y (omega arith) e

-- a stage with a conflict after stages without
pub first_at : (stages : List SetStage) (i : ℕ) (item : SetStage) (a b : ℕ) (key : List ℕ) → i < length stages → item ≡ get_or stages i item
    → AllByRecursion HasNoConflict (clusters_of (take i stages)) → IsLeastConflict (clusters_in (stage_of item)) a b key → IsFirstConflict (clusters_of stages) i a b key
first_at stages i item a b key lt is before least = record {
  clusters = clusters_in (stage_of item);
  at = slice_get-map (λ (s : SetStage). clusters_in (stage_of s)) stages i
      ∙ ap (option_map (λ (s : SetStage). clusters_in (stage_of s))) (slice_get_read stages (length stages) i item refl lt is);
  earlier = λ j clusters j_lt e. earlier_free HasNoConflict (λ (s : SetStage). clusters_in (stage_of s)) stages i before j clusters j_lt e;
  least = least;
}

-- the clusters of the stages that are listed for a set
pub clusters_listed : (stages : List SetStage) (in_set : List SetOfClusters) → map stage_of stages ≡ in_set → clusters_of stages ≡ map clusters_in in_set
clusters_listed stages in_set e = sym (map-map clusters_in stage_of stages) ∙ ap (map clusters_in) e

-- a stage of stages without a conflict
pub free_at : (stages : List SetStage) (i : ℕ) (item : SetStage) → i < length stages → item ≡ get_or stages i item
    → AllByRecursion HasNoConflict (clusters_of stages) → HasNoConflict (clusters_in (stage_of item))
free_at [] i item lt is h = absurd (omega arith)
free_at (s ∷ stages) zero item lt is h = subst (λ (t : SetStage). HasNoConflict (clusters_in (stage_of t))) (sym is) h.0
free_at (s ∷ stages) (suc i) item lt is h = free_at stages i item (omega arith) is h.1
