-- A run at a place of a set.
use Rattle.std.proofs.Common.{◌≡◌, ℕ, List, Option, Some, None, IsSome, false, map, option_map, refl, sym, ap, subst, ◌∙◌}
use Rattle.ledger_types.specs.declared.header.Header.{Header}
use Rattle.ledger_types.specs.declared.verdicts.Verdicts.{Verdicts}
use Rattle.tx_xdr.specs.declared.set.TxSet.{TxSet}
use Rattle.tx_xdr.specs.Stages.{stages_of}
use Rattle.stage_runs.specs.Maps.{LedgerMap}
use Rattle.stage_runs.specs.Runs.{clusters_in, start}
use Rattle.apply_spec.specs.Enforced.{enforced}
use Rattle.apply_spec.specs.Runs.{running_header}
use Rattle.apply_spec.specs.SimulationFile.{result_line}
use Rattle.set_place.specs.Laws.{PlaceLaw}
use Rattle.set_place.specs.Places.{Met, met_in, tx_at}
use Rattle.set_place.specs.Reaching.{met_of}
use Rattle.set_place.specs.declared.place.Place.{Place}
use Rattle.set_place.specs.declared.set.Reached.{Reached}
use Rattle.set_place.proofs.Lemmas.{applied_at}
use Rattle.why_top.specs.Explained.{EndsIn, Explains}
use Rattle.why_top.specs.Placed.{EndsAsReported, ExplainsMet}
use Rattle.why_words.specs.declared.request.Form.{Form}

-- the last line of the enforced run of the transaction that was reached
pub ends_reached : (header : Header) (verdicts : Verdicts) (entries : LedgerMap) (set : TxSet) (close_time : ℕ) (place : Place) (reached : Reached) (text : List ℕ)
    → Some (met_of reached) ≡ met_in header verdicts entries set close_time place → reached.ledger.header ≡ header
    → EndsIn (result_line (enforced (running_header reached.ledger.header close_time) verdicts reached.ledger.entries reached.envelope.now).result.result.outcome) text
    → EndsAsReported header verdicts entries set close_time place text
ends_reached header verdicts entries set close_time place reached text met same ends = record {
  pair = (enforced (running_header header close_time) verdicts reached.ledger.entries reached.envelope.now).result;
  at = applied_at header verdicts entries set close_time place (met_of reached) (sym met);
  last = subst (λ (h : Header). EndsIn (result_line (enforced (running_header h close_time) verdicts reached.ledger.entries reached.envelope.now).result.result.outcome) text) same ends;
}

-- the lines of its run
pub explains_reached : (form : Form) (header : Header) (verdicts : Verdicts) (entries : LedgerMap) (set : TxSet) (close_time : ℕ) (place : Place) (reached : Reached) (text : List ℕ)
    → Some (met_of reached) ≡ met_in header verdicts entries set close_time place → reached.ledger.header ≡ header
    → Explains (record form { recorded = false }) text (running_header reached.ledger.header close_time) verdicts reached.ledger.entries reached.envelope.now
    → ExplainsMet form header verdicts entries set close_time place text
explains_reached form header verdicts entries set close_time place reached text met same explains = record {
  met = met_of reached;
  at = sym met;
  explains = subst (λ (h : Header). Explains (record form { recorded = false }) text (running_header h close_time) verdicts reached.ledger.entries reached.envelope.now) same explains;
}

-- ---- the transaction there, by what is met

module _ (law : PlaceLaw) (header : Header) (verdicts : Verdicts) (entries : LedgerMap) (set : TxSet) (close_time : ℕ) (place : Place) where
  same_there : (met : Option Met) → met ≡ met_in header verdicts entries set close_time place → option_map (λ (m : Met). m.tx) met ≡ tx_at (map clusters_in (stages_of set)) place
  same_there met is =
      ap (option_map (λ (m : Met). m.tx)) is
      ∙ law (enforced (running_header header close_time) verdicts) (start entries) (map clusters_in (stages_of set)) place

  pub some_there : (met : Met) → Some met ≡ met_in header verdicts entries set close_time place → IsSome (tx_at (map clusters_in (stages_of set)) place)
  some_there met is = subst (λ o. IsSome o) (same_there (Some met) is) refl

  pub none_there : None ≡ met_in header verdicts entries set close_time place → tx_at (map clusters_in (stages_of set)) place ≡ None
  none_there is = sym (same_there None is)
