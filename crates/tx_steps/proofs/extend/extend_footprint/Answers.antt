use Rattle.std.proofs.Common.{[], ◌∷◌, sym, subst, ◌∙◌, List}
use Rattle.ledger_types.specs.declared.key.LedgerKey.{LedgerKey}
use Rattle.tx_results.specs.declared.results.TransactionOutcome.TheVariants.{Failed}
use Rattle.tx_steps.specs.Outcomes.{without_effect}
use Rattle.stage_runs.proofs.Lemmas.{AreSpelled}
use Rattle.tx_steps.proofs.Effects.{extend_malformed_can, extend_done_can}
use Rattle.tx_steps.proofs.Mapped.{can_from}
use Rattle.tx_steps.proofs.extend.extend_footprint.Goals as goal

pub returns-then-not-may_extend-clause-can : goal.returns-then-not-may_extend-clause-can
returns-then-not-may_extend-clause-can g c =
    can_from c.failed.result (without_effect (Failed (c.extension.result ∷ []))) (extend_malformed_can c.extension.result c.extension.ensures) c.failed.ensures.done

pub returns-clause-can : goal.returns-clause-can
returns-clause-can g c =
    extend_done_can c.in_ok-results.results c.extension-2.result c.from_vec.result c.from_vec-2.result c.nothing_used.result _ (g.G.Ground.map c.args.ground.now) c.read_only_of-keys.result.now _
    c.in_ok-results.ensures c.extension-2.ensures (c.from_vec.ensures ∙ c.new.ensures.items) (c.from_vec-2.ensures ∙ c.in_ok-extensions.ensures)
    (subst (λ (keys : List LedgerKey). AreSpelled keys) (sym c.read_only_of-keys.ensures) c.requires.read_only)
