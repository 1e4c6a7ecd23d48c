use Rattle.std.specs.List.{AllByRecursion}
use Rattle.std.specs.Option.{IfSome, IfNone}
use Rattle.std.specs.Prelude.{IfOk}
use Rattle.std.proofs.Common.{◌≡◌, List, All, map, sym, ap, subst, ◌∙◌}
use Rattle.ledger_spec.specs.LedgerMap.{key_bytes}
use Rattle.stage_runs.specs.Conflicts.{IsFirstConflict}
use Rattle.stage_runs.specs.Runs.{HasNoConflict}
use Rattle.set_steps.specs.declared.search.StageSearch.{StageSearch}
use Rattle.set_steps.specs.declared.stages.SetStage.{SetStage}
use Rattle.set_steps.specs.Search.{IsAnswered}
use Rattle.set_steps.specs.Stages.{clusters_of, IsSpelled}
use Rattle.set_steps.proofs.Searching.{all_unmapped, all_answered, same_stages}
use Rattle.set_steps.proofs.search.first_by_workers.Goals as goal

pub search_through-searched-requires-clause-spelled : goal.search_through-searched-requires-clause-spelled
search_through-searched-requires-clause-spelled g c κs within =
    all_unmapped (λ (s : StageSearch). s.stage) IsSpelled c.in_ok-searches.searches.items (subst (λ (ss : List SetStage). All IsSpelled ss) (sym c.in_ok-searches.ensures) c.requires)

pub first_found-requires : goal.first_found-requires
first_found-requires g c =
    subst (λ (ys : List StageSearch). All IsAnswered ys) (sym c.deref.ensures.value) (all_answered 0 c.in_ok-searches.searches.items c.search_through-searched.result.items c.search_through-searched.ensures)

pub returns-clause-some : goal.returns-clause-some
returns-clause-some g c =
    let same : map (λ s. s.stage) c.deref.result.now ≡ c.args.stages.now =
    ap (map (λ (s : StageSearch). s.stage)) c.deref.ensures.value ∙ same_stages 0 c.in_ok-searches.searches.items c.search_through-searched.result.items c.search_through-searched.ensures ∙ c.in_ok-searches.ensures in
    subst (λ (ss : List SetStage). IfOk c.first_found.result (λ o. IfSome o (λ k. IsFirstConflict (clusters_of ss) k.stage k.found.a k.found.b (key_bytes k.found.key.now)))) same c.first_found.ensures.some

pub returns-clause-none : goal.returns-clause-none
returns-clause-none g c =
    let same : map (λ s. s.stage) c.deref.result.now ≡ c.args.stages.now =
    ap (map (λ (s : StageSearch). s.stage)) c.deref.ensures.value ∙ same_stages 0 c.in_ok-searches.searches.items c.search_through-searched.result.items c.search_through-searched.ensures ∙ c.in_ok-searches.ensures in
    subst (λ (ss : List SetStage). IfOk c.first_found.result (λ o. IfNone o (AllByRecursion HasNoConflict (clusters_of ss)))) same c.first_found.ensures.none
