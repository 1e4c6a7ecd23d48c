use Rattle.ledger_apply.proofs.set.applied_of.Goals as goal

pub returns-clause-written : goal.returns-clause-written
returns-clause-written c = record {
  results_fit = c.into_parts-results.ensures.results_fit;
  successes_fit = c.into_parts-results.ensures.successes_fit;
  each = c.into_parts-results.ensures.each;
  preimages = c.into_parts-results.ensures.preimages;
}
