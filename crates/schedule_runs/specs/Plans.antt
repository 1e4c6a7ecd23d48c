-- Sets whose stages run by schedules (own).
use Rattle.std.specs.Prelude.{ℕ, suc, ◌+◌, List, [], ◌∷◌, Option, Some, None, length, map, if◌then◌else◌}
use Rattle.ledger_types.specs.declared.header.Header.{Header}
use Rattle.ledger_types.specs.declared.verdicts.Verdicts.{Verdicts}
use Rattle.tx_xdr.specs.Stages.{stages_of}
use Rattle.tx_xdr.specs.declared.set.TxSet.{TxSet}
use Rattle.stage_runs.specs.Maps.{LedgerMap}
use Rattle.stage_runs.specs.Runs.{Stage, RunState, clusters_in, start}
use Rattle.stage_runs.specs.Orders.{is_complete}
use Rattle.stage_runs.specs.Sets.{Planned, stopped}
use Rattle.apply_spec.specs.Enforced.{enforced}
use Rattle.apply_spec.specs.Runs.{running_header}

-- the clusters of each stage of a set
abbrev pub stages_in : TxSet → List Stage
stages_in set = map clusters_in (stages_of set)

-- The stages with their lists of cluster numbers, one list a stage.
abbrev pub planned_of : List Stage → List (List ℕ) → List Planned
planned_of [] orders = []
planned_of (stage ∷ stages) [] = []
planned_of (stage ∷ stages) (order ∷ orders) = record { stage = stage; schedule = order } ∷ planned_of stages orders

-- The least index at which a stage has no list, a list has no stage, or a list is not complete. The first stage has this index.
abbrev pub first_incomplete_from : ℕ → List Stage → List (List ℕ) → Option ℕ
first_incomplete_from index [] [] = None
first_incomplete_from index [] (order ∷ orders) = Some index
first_incomplete_from index (stage ∷ stages) [] = Some index
first_incomplete_from index (stage ∷ stages) (order ∷ orders) =
    if is_complete order stage then first_incomplete_from (suc index) stages orders else Some index

abbrev pub first_incomplete : List Stage → List (List ℕ) → Option ℕ
first_incomplete stages orders = first_incomplete_from 0 stages orders

-- the number of steps of a schedule
abbrev pub steps_of : List (List ℕ) → ℕ
steps_of [] = 0
steps_of (order ∷ orders) = length order + steps_of orders

-- The first steps of stages over a ledger, counted over all stages in order.
abbrev pub run_stopped_over : Header → Verdicts → LedgerMap → List Stage → ℕ → List (List ℕ) → ℕ → RunState
run_stopped_over header verdicts entries stages close_time orders steps =
    stopped (enforced (running_header header close_time) verdicts) steps (start entries) (planned_of stages orders)

-- the first steps of a set over a ledger
abbrev pub run_stopped : Header → Verdicts → LedgerMap → TxSet → ℕ → List (List ℕ) → ℕ → RunState
run_stopped header verdicts entries set close_time orders steps =
    run_stopped_over header verdicts entries (stages_in set) close_time orders steps
