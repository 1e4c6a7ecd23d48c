use Rattle.std.proofs.Common.{◌++◌, List, Option, ap, ap₂, ◌∙◌}
use Rattle.invoke_types.specs.declared.success.SuccessPreimage.{SuccessPreimage}
use Rattle.tx_results.specs.declared.results.TransactionResultPair.{TransactionResultPair}
use Rattle.stage_runs.specs.Runs.{Reported}
use Rattle.set_steps.specs.Reports.{beside}
use Rattle.set_steps.proofs.Besides.{beside_append}
use Rattle.set_steps.proofs.reports.Reports.append.Goals as goal

pub returns : goal.returns
returns c =
    let old = c.self.inside in
    let more = c.more.inside in
    ap₂ beside
    (c.append_reserved.ensures ∙ ap (λ (rs : List TransactionResultPair). rs ++ more.results.items) c.reserve.ensures.items)
    (c.append_reserved-2.ensures ∙ ap (λ (ss : List (Option SuccessPreimage)). ss ++ more.successes.items) c.reserve-2.ensures.items)
    ∙ beside_append old.results.items more.results.items old.successes.items more.successes.items c.self.invariant.even
    ∙ ap₂ (λ (xs ys : List Reported). xs ++ ys) c.self.view_is c.more.view_is
