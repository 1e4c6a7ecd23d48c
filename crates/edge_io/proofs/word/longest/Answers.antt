use Rattle.std.proofs.Common.{rules, tests, ap, ◌∙◌, length}
use Rattle.std.proofs.lemmas.Iterator.{YieldsList-from_slice, YieldsList-from_map}
use Rattle.std.proofs.lemmas.Iterator.Consumers.{reduce_from_yields_List}
use Rattle.std.proofs.lemmas.List.Folds.{max_of_map}
use Rattle.std.specs.Option.{unwrap_or}
use Rattle.edge_io.proofs.word.longest.Goals as goal

pub returns-clause-exact : goal.returns-clause-exact
returns-clause-exact c =
    let words = c.args.words.now in
    c.unwrap_or.ensures ∙ ap (λ o. unwrap_or o 0) (reduce_from_yields_List _ c.map.result _ c.max.ensures.ran (YieldsList-from_map _ length (YieldsList-from_slice words cc) c.map.ensures.closure (λ x b q k. search (rules, tests)))) ∙ max_of_map length words
