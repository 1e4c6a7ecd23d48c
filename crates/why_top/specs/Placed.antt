-- What is printed after a run of the transaction at a place of a set (own).
use Rattle.std.specs.Prelude.{◌≡◌, List, ℕ, Some, false, map}
use Rattle.std.specs.List.{slice_get}
use Rattle.ledger_types.specs.declared.header.Header.{Header}
use Rattle.ledger_types.specs.declared.verdicts.Verdicts.{Verdicts}
use Rattle.tx_results.specs.declared.results.TransactionResultPair.{TransactionResultPair}
use Rattle.tx_xdr.specs.Stages.{stages_of}
use Rattle.tx_xdr.specs.declared.set.TxSet.{TxSet}
use Rattle.stage_runs.specs.Maps.{LedgerMap}
use Rattle.stage_runs.specs.Runs.{clusters_in}
use Rattle.apply_spec.specs.Outputs.{results_of}
use Rattle.apply_spec.specs.Runs.{run_set, running_header}
use Rattle.apply_spec.specs.SimulationFile.{result_line}
use Rattle.set_place.specs.Places.{Met, count_before, met_in}
use Rattle.set_place.specs.declared.place.Place.{Place}
use Rattle.why_top.specs.Explained.{EndsIn, Explains}
use Rattle.why_words.specs.declared.request.Form.{Form}

-- The last line is that of the result at this place, among the results that the set has on this ledger.
pub record EndsAsReported (header : Header) (verdicts : Verdicts) (entries : LedgerMap) (set : TxSet) (close_time : ℕ)
    (place : Place) (text : List ℕ) : Type 0 where
  pub pair : TransactionResultPair
  pub at : slice_get (results_of (run_set header verdicts entries set close_time))
      (count_before (map clusters_in (stages_of set)) place) ≡ Some pair
  pub last : EndsIn (result_line pair.result.outcome) text

-- The lines are those of the transaction at this place, with the footprint that it declares, on the entries that it meets there.
pub record ExplainsMet (form : Form) (header : Header) (verdicts : Verdicts) (entries : LedgerMap) (set : TxSet) (close_time : ℕ)
    (place : Place) (text : List ℕ) : Type 0 where
  pub met : Met
  pub at : met_in header verdicts entries set close_time place ≡ Some met
  pub explains : Explains (record form { recorded = false }) text (running_header header close_time) verdicts met.entries met.tx
