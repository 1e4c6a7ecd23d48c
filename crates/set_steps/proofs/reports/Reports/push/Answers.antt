use Rattle.std.proofs.Common.{◌∷◌, [], ◌++◌, List, Option, ap, ap₂, ◌∙◌}
use Rattle.invoke_types.specs.declared.success.SuccessPreimage.{SuccessPreimage}
use Rattle.tx_results.specs.declared.results.TransactionResultPair.{TransactionResultPair}
use Rattle.stage_runs.specs.Runs.{Reported}
use Rattle.set_steps.specs.Reports.{beside}
use Rattle.set_steps.proofs.Besides.{beside_append}
use Rattle.set_steps.proofs.reports.Reports.push.Goals as goal

pub returns : goal.returns
returns c =
    let old = c.self.inside in
    let one : List Reported = (record { result = c.args.pair; success = c.args.success }) ∷ [] in
    ap₂ beside
    (c.push_reserved.ensures.items ∙ ap (λ (rs : List TransactionResultPair). rs ++ c.args.pair ∷ []) c.reserve.ensures.items)
    (c.push_reserved-2.ensures.items ∙ ap (λ (ss : List (Option SuccessPreimage)). ss ++ c.args.success ∷ []) c.reserve-2.ensures.items)
    ∙ beside_append old.results.items (c.args.pair ∷ []) old.successes.items (c.args.success ∷ []) c.self.invariant.even
    ∙ ap (λ (xs : List Reported). xs ++ one) c.self.view_is
