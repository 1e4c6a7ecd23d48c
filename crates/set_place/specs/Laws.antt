-- The laws of places (own).
use Rattle.std.specs.Prelude.{◌≡◌, ℕ, List, Some, map, option_map}
use Rattle.std.specs.List.{flat_map, slice_get}
use Rattle.ledger_types.specs.declared.header.Header.{Header}
use Rattle.ledger_types.specs.declared.verdicts.Verdicts.{Verdicts}
use Rattle.tx_xdr.specs.Stages.{stages_of}
use Rattle.tx_xdr.specs.declared.set.TxSet.{TxSet}
use Rattle.stage_runs.specs.Maps.{LedgerMap}
use Rattle.stage_runs.specs.Transactions.{Envelope, Step}
use Rattle.stage_runs.specs.Runs as runs
use Rattle.stage_runs.specs.Runs.{Stage, RunState, clusters_in, reported, start}
use Rattle.apply_spec.specs.Enforced.{enforced}
use Rattle.apply_spec.specs.Outputs.{results_of}
use Rattle.apply_spec.specs.Runs.{run_set, running_header}
use Rattle.set_place.specs.Places.{Met, count_before, met_at, met_in, tx_at, txs_of}
use Rattle.set_place.specs.declared.place.Place.{Place}

-- What is met at a place is met by the transaction there. So nothing is met exactly where the set has no transaction.
abbrev pub PlaceLaw : Type 0
PlaceLaw = (step : Step) (running : RunState) (stages : List Stage) (place : Place)
    → option_map (λ (met : Met). met.tx) (met_at step running stages place) ≡ tx_at stages place

-- The transaction at a place stands behind as many transactions of the set as are counted before it.
abbrev pub OrderLaw : Type 0
OrderLaw = (stages : List Stage) (place : Place) (tx : Envelope) → tx_at stages place ≡ Some tx
    → slice_get (flat_map txs_of stages) (count_before stages place) ≡ Some tx

-- What a run reports of the transaction at a place is what the transaction does on the map that it meets.
abbrev pub ReportedLaw : Type 0
ReportedLaw = (step : Step) (entries : LedgerMap) (stages : List Stage) (place : Place) (met : Met)
    → met_at step (start entries) stages place ≡ Some met
    → slice_get (runs.run_set step (start entries) stages).results (count_before stages place)
    ≡ Some (reported (step met.entries met.tx))

-- So the result that a set over a ledger has at a place is that of the enforced transaction on the map that it meets.
abbrev pub AppliedLaw : Type 0
AppliedLaw =
    (header : Header) (verdicts : Verdicts) (entries : LedgerMap) (set : TxSet) (close_time : ℕ) (place : Place) (met : Met)
    → met_in header verdicts entries set close_time place ≡ Some met
    → slice_get (results_of (run_set header verdicts entries set close_time))
    (count_before (map clusters_in (stages_of set)) place)
    ≡ Some (enforced (running_header header close_time) verdicts met.entries met.tx).result
