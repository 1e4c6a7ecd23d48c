-- Stages by their schedules, one after the other.
use Rattle.std.specs.List.{AllByRecursion}
use Rattle.std.proofs.Common.{◌≡◌, ◌&&◌, ◌≤◌, ◌-◌, ℕ, suc, Bool, true, false, cond, List, [], ◌∷◌, length, take, map, Option, Some, None, refl, sym, ap, subst, ◌∙◌, arith}
use Rattle.std.proofs.lemmas.Bool.{le-leb}
use Rattle.std.proofs.lemmas.Option.{none-some}
use Rattle.stage_runs.specs.Transactions.{Step, IsFramed}
use Rattle.stage_runs.specs.Runs.{Stage, RunState, HasNoConflict, run_clusters, run_stage, run_set, start}
use Rattle.stage_runs.specs.Orders.{first_of, is_complete, runs_each}
use Rattle.stage_runs.specs.Sets.{IsPlanned, stopped, stopped_in_order}
use Rattle.stage_runs.proofs.Lemmas.{stopped_order}
use Rattle.tx_xdr.specs.Stages.{stages_of}
use Rattle.tx_xdr.specs.declared.set.TxSet.{TxSet}
use Rattle.set_steps.specs.declared.stages.SetStage.{SetStage}
use Rattle.set_steps.specs.Stages.{clusters_of, stage_of}
use Rattle.set_steps.proofs.Lemmas.{clusters_listed}
use Rattle.apply_spec.specs.Enforced.{enforced}
use Rattle.apply_spec.specs.Runs as apply
use Rattle.apply_spec.proofs.Lemmas.{step_framed}
use Rattle.schedule_runs.specs.Laws.{WholeLaw}
use Rattle.schedule_runs.specs.Plans.{first_incomplete_from, planned_of, stages_in, steps_of}

-- ---- complete schedules

first_true : (a b : Bool) → (a && b) ≡ true → a ≡ true
first_true true b is = refl
first_true false b is = is

unless_complete : (b : Bool) (index : ℕ) (rest : Option ℕ) → cond b rest (Some index) ≡ None → (b ≡ true) × (rest ≡ None)
unless_complete true index rest is = (refl, is)
unless_complete false index rest is = absurd (none-some _ (sym is))

pub even_length : (index : ℕ) (stages : List Stage) (orders : List (List ℕ)) → first_incomplete_from index stages orders ≡ None → length orders ≡ length stages
even_length index [] [] is = refl
even_length index [] (order ∷ orders) is = absurd (none-some _ (sym is))
even_length index (stage ∷ stages) [] is = absurd (none-some _ (sym is))
even_length index (stage ∷ stages) (order ∷ orders) is =
    ap suc (even_length (suc index) stages orders (unless_complete (is_complete order stage) index _ is).1)

each_planned : (index : ℕ) (stages : List Stage) (orders : List (List ℕ)) → AllByRecursion HasNoConflict stages → first_incomplete_from index stages orders ≡ None
    → AllByRecursion IsPlanned (planned_of stages orders)
each_planned index [] orders free is = tt
each_planned index (stage ∷ stages) [] free is = tt
each_planned index (stage ∷ stages) (order ∷ orders) free is =
    let both = unless_complete (is_complete order stage) index _ is in
    (record { free = free.0; all = first_true (runs_each order stage) _ both.0 }, each_planned (suc index) stages orders free.1 both.1)

-- ---- schedules that are run whole

whole_in_order : (step : Step) (k : ℕ) (running : RunState) (stages : List Stage) (orders : List (List ℕ)) → length orders ≡ length stages → steps_of orders ≤ k
    → stopped_in_order step k running (planned_of stages orders) ≡ run_set step running stages
whole_in_order step k running [] orders even le = refl
whole_in_order step k running (stage ∷ stages) [] even le = absurd (omega (arith, even))
whole_in_order step k running (stage ∷ stages) (order ∷ orders) even le =
    ap (λ (b : Bool). cond b (stopped_in_order step (k - length order) (run_stage step running stage) (planned_of stages orders)) (run_clusters step running (first_of (take k order) stage))) (le-leb (length order) k (omega (arith, le)))
    ∙ whole_in_order step (k - length order) (run_stage step running stage) stages orders (omega (arith, even)) (omega (arith, le))

-- If all steps are run, the schedules come to the set.
pub whole_run : (step : Step) → IsFramed step → (k : ℕ) (running : RunState) (stages : List Stage) (orders : List (List ℕ))
    → AllByRecursion HasNoConflict stages → first_incomplete_from 0 stages orders ≡ None → steps_of orders ≤ k
    → stopped step k running (planned_of stages orders) ≡ run_set step running stages
whole_run step laws k running stages orders free complete le =
    stopped_order step laws (planned_of stages orders) k running (each_planned 0 stages orders free complete)
    ∙ whole_in_order step k running stages orders (even_length 0 stages orders complete) le

-- the same of a set over a ledger
pub whole_set : WholeLaw
whole_set header verdicts entries set close_time orders k free complete le =
    whole_run (enforced (apply.running_header header close_time) verdicts) (step_framed (apply.running_header header close_time) verdicts)
    k (start entries) (stages_in set) orders free complete le

-- ---- the stages of a set as the code lists them

pub listed : (set : TxSet) (lent items : List SetStage) → lent ≡ items → map stage_of items ≡ stages_of set → clusters_of lent ≡ stages_in set
listed set lent items same is = ap clusters_of same ∙ clusters_listed items (stages_of set) is

pub carried : (P : List Stage → List (List ℕ) → Type 0) (ss tt : List Stage) (os ps : List (List ℕ)) → ss ≡ tt → os ≡ ps → P ss os → P tt ps
carried P ss tt os ps stages orders h = subst (λ (s : List Stage). P s ps) stages (subst (λ (o : List (List ℕ)). P ss o) orders h)
