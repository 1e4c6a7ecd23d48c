use Rattle.std.proofs.Common.{◌∙◌, rules, tests}
use Rattle.std.proofs.lemmas.Iterator.{YieldsList-from_slice}
use Rattle.std.proofs.lemmas.Iterator.Consumers.{YieldsList-at, YieldsList-from_filter, count_from_yields_List}
use Rattle.std.proofs.lemmas.List.Sums.{length-filter}
use Rattle.apply_spec.specs.Outputs.{has_succeeded}
use Rattle.tx_results.specs.declared.results.TransactionResultPair.{TransactionResultPair}
use Rattle.command_io.proofs.report.successes.Goals as goal

pub returns-clause-count : goal.returns-clause-count
returns-clause-count c =
    let counts = λ (pair : TransactionResultPair). has_succeeded pair.result.outcome in
    count_from_yields_List c.filter.result c.count.result c.count.ensures.ran (YieldsList-from_filter _ counts (YieldsList-at c.filter.ensures.source (YieldsList-from_slice c.args.results.now cc)) c.filter.ensures.closure (λ x r q k. search (rules, tests)))
    ∙ length-filter counts c.args.results.now
