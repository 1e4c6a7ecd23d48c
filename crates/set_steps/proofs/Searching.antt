-- Stages that workers searched for conflicts.
use Rattle.std.specs.List.{AllByRecursion}
use Rattle.std.proofs.Common.{◌≡◌, ℕ, zero, suc, ◌+◌, ◌<◌, List, [], ◌∷◌, All, length, get_or, take, map, refl, ap₂, subst, add-one, arith}
use Rattle.std.proofs.lemmas.List.Elements.{All-from_recursion}
use Rattle.worker_runs.specs.Worked.{IsWorked}
use Rattle.stage_runs.specs.Runs.{clusters_in, HasNoConflict}
use Rattle.set_steps.specs.Stages.{stage_of, clusters_of}
use Rattle.set_steps.specs.Search.{IsAnswered, IsSearched}
use Rattle.set_steps.specs.declared.stages.SetStage.{SetStage}
use Rattle.set_steps.specs.declared.search.StageSearch.{StageSearch}

module _ {A B : Type 0} (f : A → B) where
  -- what holds of the images of a list's items
  pub all_unmapped : (P : B → Type 0) (xs : List A) → All P (map f xs) → All (λ x. P (f x)) xs
  all_unmapped P [] h k d l = absurd (omega arith)
  all_unmapped P (x ∷ xs) h zero d l = h 0 (f x) (omega arith)
  all_unmapped P (x ∷ xs) h (suc k) d l = all_unmapped P xs (λ j e m. h (suc j) e (omega arith)) k d (omega arith)

  pub within_map : (xs : List A) (i : ℕ) → i < length xs → i < length (map f xs)
  within_map [] i l = absurd (omega arith)
  within_map (x ∷ xs) zero l = omega arith
  within_map (x ∷ xs) (suc i) l = let m : i < length (map f xs) = within_map xs i (omega arith) in omega arith

  pub item_of_map : (xs : List A) (i : ℕ) (x : A) → i < length xs → x ≡ get_or xs i x → f x ≡ get_or (map f xs) i (f x)
  item_of_map [] i x l e = absurd (omega arith)
  item_of_map (y ∷ xs) zero x l e = cc
  item_of_map (y ∷ xs) (suc i) x l e = item_of_map xs i x (omega arith) e

free_suc : (stages : List SetStage) (i : ℕ) (item : SetStage) → i < length stages → item ≡ get_or stages i item
    → AllByRecursion HasNoConflict (clusters_of (take i stages)) → HasNoConflict (clusters_in (stage_of item))
    → AllByRecursion HasNoConflict (clusters_of (take (suc i) stages))
free_suc [] i item l e before none = absurd (omega arith)
free_suc (s ∷ stages) zero item l e before none = (subst (λ (t : SetStage). HasNoConflict (clusters_in (stage_of t))) e none, tt)
free_suc (s ∷ stages) (suc i) item l e before none = (before.0, free_suc stages i item (omega arith) e before.1 none)

-- one more stage without a conflict
pub free_more : (stages : List SetStage) (i : ℕ) (item : SetStage) → i < length stages → item ≡ get_or stages i item
    → AllByRecursion HasNoConflict (clusters_of (take i stages)) → HasNoConflict (clusters_in (stage_of item))
    → AllByRecursion HasNoConflict (clusters_of (take (i + 1) stages))
free_more stages i item l e before none = rw add-one (free_suc stages i item l e before none)

each_answered : (i : ℕ) (xs ys : List StageSearch) → IsWorked (λ _ x y. IsSearched x y) i xs ys → AllByRecursion IsAnswered ys
each_answered i [] [] w = tt
each_answered i [] (y ∷ ys) w = absurd w
each_answered i (x ∷ xs) [] w = absurd w
each_answered i (x ∷ xs) (y ∷ ys) w = (w.0.answered, each_answered (suc i) xs ys w.1)

-- each stage has its answer
pub all_answered : (i : ℕ) (xs ys : List StageSearch) → IsWorked (λ _ x y. IsSearched x y) i xs ys → All IsAnswered ys
all_answered i xs ys w = All-from_recursion IsAnswered ys (each_answered i xs ys w)

-- the stages are the same
pub same_stages : (i : ℕ) (xs ys : List StageSearch) → IsWorked (λ _ x y. IsSearched x y) i xs ys → map (λ s. s.stage) ys ≡ map (λ s. s.stage) xs
same_stages i [] [] w = refl
same_stages i [] (y ∷ ys) w = absurd w
same_stages i (x ∷ xs) [] w = absurd w
same_stages i (x ∷ xs) (y ∷ ys) w = ap₂ (λ (s : SetStage) (ss : List SetStage). s ∷ ss) w.0.same (same_stages (suc i) xs ys w.1)
