-- The first stage for which a schedule is not complete, found stage by stage.
use Rattle.std.proofs.Common.{◌≡◌, ◌<◌, ◌≤◌, ℕ, List, [], length, drop, map, Option, Some, refl, arith}
use Rattle.std.proofs.lemmas.List.{drop_all, drop_more}
use Rattle.stage_runs.specs.Runs.{Stage}
use Rattle.schedule_runs.specs.Plans.{first_incomplete_from}

-- from this stage on
abbrev pub from_on : {A : Type 0} → (A → Stage) → List A → List (List ℕ) → ℕ → Option ℕ
from_on f stages orders index = first_incomplete_from index (map f (drop index stages)) (drop index orders)

-- after the last stage
pub more_orders : {A : Type 0} (f : A → Stage) (stages : List A) (orders : List (List ℕ)) (index : ℕ) → length stages ≤ index → index ≤ length stages → length stages < length orders
    → from_on f stages orders index ≡ Some (length stages)
more_orders f stages orders index past upto lt =
    let at : index ≡ length stages = omega (arith, past, upto) in
    rw (drop_all index stages past, at, drop_more orders (length stages) [] lt) refl
