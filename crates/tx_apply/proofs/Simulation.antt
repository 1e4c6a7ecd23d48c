-- What is simulated of an envelope.
use Rattle.std.proofs.Common.{◌≡◌, true, sym, ap, subst, ◌∙◌}
use Rattle.ledger_types.specs.declared.header.Header.{Header}
use Rattle.ledger_types.specs.declared.verdicts.Verdicts.{Verdicts}
use Rattle.tx_xdr.specs.Envelope.{transaction_in}
use Rattle.tx_xdr.specs.declared.transaction.Footprint.{Footprint}
use Rattle.tx_xdr.specs.declared.envelope.Envelope.{Envelope}
use Rattle.tx_results.specs.Report.{has_preimage}
use Rattle.tx_results.specs.Results.{outcome_in}
use Rattle.stage_runs.specs.Maps.{LedgerMap, AgreeOn}
use Rattle.stage_runs.specs.Transactions.{Effect, declares}
use Rattle.apply_spec.specs.Recorded.{IsSmaller}
use Rattle.apply_spec.specs.Enforced.{enforced}
use Rattle.apply_spec.specs.Simulated.{with_footprint, Needs, needs, Simulated, simulated_with, simulated}
use Rattle.apply_spec.specs.SimulatedLaws.{IsTrapped}
use Rattle.apply_spec.proofs.Lemmas.{smaller_traps, step_framed}

module _ (header : Header) (verdicts : Verdicts) (entries : LedgerMap) (envelope : Envelope) where
  pub simulated_is : (n : Needs) (sent : Envelope) (effect : Effect) → n ≡ needs header verdicts entries (transaction_in envelope)
      → sent ≡ with_footprint n.footprint envelope → effect ≡ enforced header verdicts entries sent
      → record { footprint = n.footprint; envelope = sent; effect = effect; used = n.used } ≡ simulated header verdicts entries envelope
  simulated_is n sent effect needed is done =
      let does = done ∙ ap (enforced header verdicts entries) is in
      (λ i. let s : Simulated = record { footprint = n.footprint; envelope = is i; effect = does i; used = n.used } in s)
      ∙ ap (simulated_with header verdicts entries envelope) needed

  -- the same is enforced on every map that agrees
  pub enforced_elsewhere : (sent : Envelope) (effect : Effect) → effect ≡ enforced header verdicts entries sent → (other : LedgerMap) → AgreeOn (declares sent) entries other
      → enforced header verdicts other sent ≡ effect
  enforced_elsewhere sent effect done other agree = sym (done ∙ (step_framed header verdicts).framed entries other sent agree)

  abbrev Traps : Simulated → Type 0
  Traps s = (other : LedgerMap) (smaller : Footprint) → AgreeOn (declares s.envelope) entries other → has_preimage (outcome_in s.effect.result.result.outcome) ≡ true
      → IsSmaller smaller s.footprint → IsTrapped header (with_footprint smaller envelope) (enforced header verdicts other (with_footprint smaller envelope))

  -- a smaller footprint traps
  pub smaller_trap : (n : Needs) (sent : Envelope) (effect : Effect) → n ≡ needs header verdicts entries (transaction_in envelope)
      → sent ≡ with_footprint n.footprint envelope → effect ≡ enforced header verdicts entries sent
      → Traps (record { footprint = n.footprint; envelope = sent; effect = effect; used = n.used })
  smaller_trap n sent effect needed is done =
      subst Traps (sym (simulated_is n sent effect needed is done))
      (λ other smaller agree success less. smaller_traps header verdicts entries other envelope smaller success agree less)
