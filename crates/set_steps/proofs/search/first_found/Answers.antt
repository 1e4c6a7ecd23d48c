use Rattle.std.specs.Option.{IfSome, IfNone}
use Rattle.std.proofs.Common.{Option, map, subst, sym}
use Rattle.ledger_spec.specs.LedgerMap.{key_bytes}
use Rattle.stage_plan.specs.declared.conflict.Conflict.{Conflict}
use Rattle.stage_runs.specs.Conflicts.{IsLeastConflict}
use Rattle.stage_runs.specs.Runs.{clusters_in, HasNoConflict}
use Rattle.set_steps.specs.Search.{IsAnswered}
use Rattle.set_steps.specs.Stages.{stage_of}
use Rattle.set_steps.specs.declared.search.StageSearch.{StageSearch}
use Rattle.set_steps.proofs.Firsts.{first_at}
use Rattle.set_steps.proofs.Searching.{within_map, item_of_map, free_more}
use Rattle.set_steps.proofs.search.first_found.Goals as goal

pub answer_of-requires : goal.answer_of-requires
answer_of-requires c =
    subst (λ (s : StageSearch). IsAnswered s) (sym c.index-searches-index.is) (c.requires c.loop-index.index c.index-searches-index.result c.loop-index-test.true)

pub returns-in-Some-clause-some : goal.returns-in-Some-clause-some
returns-in-Some-clause-some c =
    let item = c.index-searches-index.result in
    let xs = c.args.searches.now in
    let i = c.loop-index.index in
    first_at (map (λ (s : StageSearch). s.stage) xs) i item.stage c.in-Some.found.a c.in-Some.found.b (key_bytes c.in-Some.found.key.now)
    (within_map (λ (s : StageSearch). s.stage) xs i c.loop-index-test.true)
    (item_of_map (λ (s : StageSearch). s.stage) xs i item c.loop-index-test.true c.index-searches-index.is)
    c.loop-index.invariant
    (subst (λ (o : Option Conflict). IfSome o (λ f. IsLeastConflict (clusters_in (stage_of item.stage)) f.a f.b (key_bytes f.key.now))) c.in-Some.is c.in_ok-found.ensures.some)

pub loop-index-preserved : goal.loop-index-preserved
loop-index-preserved c =
    let item = c.index-searches-index.result in
    let xs = c.args.searches.now in
    let i = c.loop-index.index in
    free_more (map (λ (s : StageSearch). s.stage) xs) i item.stage
    (within_map (λ (s : StageSearch). s.stage) xs i c.loop-index-test.true)
    (item_of_map (λ (s : StageSearch). s.stage) xs i item c.loop-index-test.true c.index-searches-index.is)
    c.loop-index.invariant
    (subst (λ (o : Option Conflict). IfNone o (HasNoConflict (clusters_in (stage_of item.stage)))) c.in_default.is c.in_ok-found.ensures.none)
