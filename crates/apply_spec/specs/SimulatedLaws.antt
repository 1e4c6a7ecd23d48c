-- What is simulated is what is enforced (own).
use Rattle.std.specs.Prelude.{◌≡◌, true, [], ◌∷◌}
use Rattle.ledger_types.specs.declared.header.Header.{Header}
use Rattle.ledger_types.specs.declared.verdicts.Verdicts.{Verdicts}
use Rattle.tx_xdr.specs.declared.transaction.Footprint.{Footprint}
use Rattle.tx_xdr.specs.declared.envelope.Envelope.{Envelope}
use Rattle.tx_results.specs.Report.{has_preimage}
use Rattle.tx_results.specs.Results.{outcome_in}
use Rattle.tx_results.specs.declared.operation.InvokeResult.TheVariants.{Trapped}
use Rattle.tx_results.specs.declared.operation.InnerResult.TheVariants.{Invoke}
use Rattle.tx_results.specs.declared.operation.OperationResult.TheVariants.{Inner}
use Rattle.tx_results.specs.declared.results.TransactionOutcome.TheVariants.{Failed}
use Rattle.stage_runs.specs.Maps.{LedgerMap, AgreeOn}
use Rattle.stage_runs.specs.Transactions.{Effect, declares}
use Rattle.stage_runs.specs.Whole.{without_effect}
use Rattle.apply_spec.specs.Recorded.{IsSmaller}
use Rattle.apply_spec.specs.Enforced.{enforced, result_pair}
use Rattle.apply_spec.specs.Simulated.{simulated, with_footprint}

-- Take any map that agrees with the simulated ledger on the footprint. With the same header and verdicts, the envelope with that
-- footprint has the effect that was simulated: the result, the value and the events, the changes, the extensions and the sums. An
-- envelope without Soroban data declares nothing and stays as it is.
abbrev pub SimulatedLaw : Type 0
SimulatedLaw = (header : Header) (verdicts : Verdicts) (entries other : LedgerMap) (envelope : Envelope)
    → (let s = simulated header verdicts entries envelope in
    AgreeOn (declares s.envelope) entries other → enforced header verdicts other s.envelope ≡ s.effect)

-- TRAPPED, without changes, extensions and events; the sums are left open
pub record IsTrapped (header : Header) (envelope : Envelope) (effect : Effect) : Type 0 where
  pub trapped : effect
      ≡ without_effect (result_pair header.network_id envelope (Failed (Inner (Invoke Trapped) ∷ []))) effect.used

-- If a call was simulated and succeeded, the envelope with any smaller footprint traps, on every such map.
abbrev pub SmallerTrapsLaw : Type 0
SmallerTrapsLaw = (header : Header) (verdicts : Verdicts) (entries other : LedgerMap) (envelope : Envelope) (smaller : Footprint)
    → (let s = simulated header verdicts entries envelope in
    has_preimage (outcome_in s.effect.result.result.outcome) ≡ true → AgreeOn (declares s.envelope) entries other
    → IsSmaller smaller s.footprint
    → IsTrapped header (with_footprint smaller envelope) (enforced header verdicts other (with_footprint smaller envelope)))
