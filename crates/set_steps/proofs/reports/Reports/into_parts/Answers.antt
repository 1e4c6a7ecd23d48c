use Rattle.std.proofs.Common.{List, Option, All, map, subst, sym, ap, ◌∙◌}
use Rattle.xdr_spec.specs.Format.{optional}
use Rattle.invoke_types.specs.Success.{success_format}
use Rattle.stage_runs.specs.Runs.{Reported}
use Rattle.tx_results.proofs.Lemmas.{result_set_fits}
use Rattle.tx_results.specs.Results.{result_set_format}
use Rattle.tx_results.specs.declared.results.TransactionResultPair.{TransactionResultPair}
use Rattle.invoke_types.specs.declared.success.SuccessPreimage.{SuccessPreimage}
use Rattle.set_steps.proofs.Besides.{results_beside, successes_beside, all_successes_fit}
use Rattle.set_steps.proofs.reports.Reports.into_parts.Goals as goal

pub returns-clause-results : goal.returns-clause-results
returns-clause-results c =
    c.from_vec.ensures ∙ results_beside c.self.inside.results.items c.self.inside.successes.items c.self.invariant.even
    ∙ ap (map (λ (r : Reported). r.result)) c.self.view_is

pub returns-clause-successes : goal.returns-clause-successes
returns-clause-successes c =
    c.from_vec-2.ensures ∙ successes_beside c.self.inside.results.items c.self.inside.successes.items c.self.invariant.even
    ∙ ap (map (λ (r : Reported). r.success)) c.self.view_is

pub returns-clause-results_fit : goal.returns-clause-results_fit
returns-clause-results_fit c =
    subst (λ (pairs : List TransactionResultPair). result_set_format.fits (record { pairs = pairs })) (sym c.from_vec.ensures)
    (result_set_fits (record { pairs = c.self.inside.results.items }) c.self.invariant.few c.self.invariant.results_fit)

pub returns-clause-successes_fit : goal.returns-clause-successes_fit
returns-clause-successes_fit c =
    subst (λ (ss : List (Option SuccessPreimage)). All (λ (s : Option SuccessPreimage). (optional success_format).fits s) ss) (sym c.from_vec-2.ensures)
    (all_successes_fit c.self.inside.successes.items c.self.invariant.successes_fit)
