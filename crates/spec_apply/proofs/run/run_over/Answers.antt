use Rattle.std.proofs.Common.{sym, ap, ◌∙◌}
use Rattle.tx_results.specs.Report.{has_preimage}
use Rattle.tx_results.specs.Results.{outcome_in}
use Rattle.tx_results.specs.declared.results.TransactionResultPair.{TransactionResultPair}
use Rattle.apply_spec.specs.Simulated.{Simulated}
use Rattle.apply_spec.proofs.Lemmas.{outcome_kept}
use Rattle.spec_apply.proofs.Names.{simulated_result}
use Rattle.spec_apply.proofs.run.run_over.Goals as goal

pub named-requires-clause-of : goal.named-requires-clause-of
named-requires-clause-of g c =
    simulated_result c.args.header.now c.args.verdicts.now (g.G.Ground.map c.args.ground.now) c.args.envelope.now c.in_ok-simulated.simulated.done.result
    (ap (λ (s : Simulated). s.effect.result) c.in_ok-simulated.ensures.simulated)

pub returns-clause-spelled : goal.returns-clause-spelled
returns-clause-spelled g c =
    let done = c.in_ok-simulated.ensures.within in
    let same = ap (λ (p : TransactionResultPair). outcome_in p.result.outcome) c.in_ok-result.ensures.named
    ∙ outcome_kept c.args.header.now.network_id c.args.envelope.now (outcome_in c.in_ok-simulated.simulated.done.result.result.outcome) in
    record {
      within = record {
        result = c.in_ok-result.ensures.fits;
        success = done.success;
        preimage = done.preimage ∙ ap has_preimage (sym same);
        changes = done.changes;
        extensions = done.extensions;
      };
      footprint = c.in_ok-simulated.ensures.footprint;
    }
