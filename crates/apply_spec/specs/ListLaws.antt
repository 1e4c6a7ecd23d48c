-- The laws of lists whose footprints are simulated (own).
use Rattle.std.specs.Prelude.{◌≡◌, ◌↔◌, true, List, [], ◌∷◌, map}
use Rattle.ledger_types.specs.declared.header.Header.{Header}
use Rattle.ledger_types.specs.declared.verdicts.Verdicts.{Verdicts}
use Rattle.tx_xdr.specs.declared.transaction.Footprint.{Footprint}
use Rattle.tx_xdr.specs.declared.envelope.Envelope.{Envelope}
use Rattle.stage_runs.specs.Maps.{LedgerMap, AgreeOn}
use Rattle.stage_runs.specs.Transactions.{Step}
use Rattle.stage_runs.specs.Runs.{RunState, run_set}
use Rattle.apply_spec.specs.Recorded.{is_declared}
use Rattle.apply_spec.specs.Simulated.{simulated}
use Rattle.apply_spec.specs.ListRuns.{listed, run_each, agrees, is_kept}

-- Take any map that agrees with the simulated ledger on the footprint that was found. The same is simulated on it: the footprint,
-- the effect, and the sums of the whole run.
abbrev pub ResimulatedLaw : Type 0
ResimulatedLaw = (header : Header) (verdicts : Verdicts) (entries other : LedgerMap) (envelope : Envelope)
    → AgreeOn (is_declared (simulated header verdicts entries envelope).footprint) entries other
    → simulated header verdicts other envelope ≡ simulated header verdicts entries envelope

-- the test decides whether two maps agree on a footprint
abbrev pub AgreesLaw : Type 0
AgreesLaw = (footprint : Footprint) (m n : LedgerMap) → (agrees footprint m n ≡ true) ↔ AgreeOn (is_declared footprint) m n

-- So a run that is kept has the effect that it would have now.
abbrev pub KeptRunLaw : Type 0
KeptRunLaw = (header : Header) (verdicts : Verdicts) (opening entries : LedgerMap) (envelope : Envelope)
    → is_kept header verdicts opening entries envelope ≡ true
    → listed header verdicts entries envelope ≡ listed header verdicts opening envelope

-- A list runs like a set in which each envelope is a stage of its own.
abbrev pub StagesLaw : Type 0
StagesLaw = (step : Step) (running : RunState) (list : List Envelope)
    → run_each step running list ≡ run_set step running (map (λ envelope. (envelope ∷ []) ∷ []) list)
