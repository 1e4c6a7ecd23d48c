-- The law of sets that run by a schedule (own).
use Rattle.std.specs.Prelude.{◌≡◌, ◌≤◌, ℕ, List, None}
use Rattle.std.specs.List.{AllByRecursion}
use Rattle.ledger_types.specs.declared.header.Header.{Header}
use Rattle.ledger_types.specs.declared.verdicts.Verdicts.{Verdicts}
use Rattle.tx_xdr.specs.declared.set.TxSet.{TxSet}
use Rattle.stage_runs.specs.Maps.{LedgerMap}
use Rattle.stage_runs.specs.Runs.{HasNoConflict}
use Rattle.apply_spec.specs.Runs.{run_set}
use Rattle.schedule_runs.specs.Plans.{first_incomplete, run_stopped, stages_in, steps_of}

-- If a set has no conflict, each complete schedule does what the set does, once all its steps run.
abbrev pub WholeLaw : Type 0
WholeLaw =
    (header : Header) (verdicts : Verdicts) (entries : LedgerMap) (set : TxSet) (close_time : ℕ) (orders : List (List ℕ))
    (steps : ℕ)
    → AllByRecursion HasNoConflict (stages_in set) → first_incomplete (stages_in set) orders ≡ None → steps_of orders ≤ steps
    → run_stopped header verdicts entries set close_time orders steps ≡ run_set header verdicts entries set close_time
